use Rattle.std.proofs.Common.{refl}
use Rattle.std.specs.Prelude.{◌++◌}
use Rattle.ados_launch.specs.Schedule.{first_schedule_state}
use Rattle.ados_launch.proofs.Unique.{unique}
use Rattle.ados_launch.proofs.laws.sessions_are_unique.Goals as goal

pub returns : goal.returns
returns c = λ w bytes breaks before before' is_full is_full' listed more taken taken' last last' s t none.
    unique taken taken' (first_schedule_state breaks) w bytes is_full is_full' listed (listed ++ more) more last last' s.run t.run s.ordered t.ordered (s.lines bytes refl) (t.lines bytes refl) s.asked t.asked refl none
