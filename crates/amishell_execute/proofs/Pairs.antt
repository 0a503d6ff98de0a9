-- A launcher and a world that agree.
use Rattle.std.proofs.Common.{◌≡◌, Option, None, length, refl, ap, sym, subst, ℕ, List, [], Bool, false, get_or}
use Rattle.ados_machine.specs.FrameEnds.{IsSane}
use Rattle.ados_machine.specs.World.{WorldState, pending_of}
use Rattle.ados_launcher.specs.declared.calls.Call.{Call}
use Rattle.ados_launch.specs.Agreement.{Agrees, AreOver, IsOpenTable}
use Rattle.ados_launch.specs.Deeds.{DoesByRule, RunsLines}
use Rattle.ados_launch.specs.Rounds.{asks_read_or_wait}
use Rattle.ados_launch.specs.Schedule.{scheduled_next}
use Rattle.ados_launch.specs.Session.{Moment}
use Rattle.ados_launch.specs.Steps.{SessionState, TakesNothing}
use Rattle.ados_launch.proofs.ActsLaws.{does-by-rule}
use Rattle.ados_launch.proofs.Stepping.{session-over}
use Rattle.ados_launch.proofs.Deeding.{does-any, does-none, lines-none}
use Rattle.ados_launch.proofs.Agreeing.{table-begins}

-- a launcher without a call agrees with a world as any other does
pub kept_pair : (w : WorldState) (calls : List Call) → calls ≡ [] → Agrees w [] → Agrees w calls
kept_pair w calls none agrees = rw none agrees

pub bare_pair : (w : WorldState) (calls : List Call) → calls ≡ [] → Agrees w calls → Agrees w []
bare_pair w calls none agrees = rw none at agrees

-- the children that a world asks for are those that are open
pub table_looked : (w : WorldState) (calls : List Call) (table : List Bool) → Agrees w calls → ((k : ℕ) → get_or table k false ≡ asks_read_or_wait (pending_of w k)) → IsOpenTable table calls
table_looked w calls table agrees looked = table-begins w calls table agrees looked

-- nothing happened
pub rule_stays : (w : WorldState) (is_cut : Bool) (contents : Option (List ℕ)) → IsSane w → DoesByRule w w is_cut contents contents
rule_stays w is_cut contents sane = does-by-rule w w is_cut contents contents (does-any is_cut w w contents contents (does-none w w contents contents refl refl)) sane

pub lines_stay : (w : WorldState) → RunsLines w w
lines_stay w = lines-none w w refl

-- nothing comes: no child is open
pub nothing_over : (was now : SessionState) (before after : Moment) (calls : List Call) → TakesNothing was now before after → Agrees after.world calls → length after.world.shells ≡ 20 → AreOver calls
nothing_over was now before after calls t agrees size =
    session-over was after.world calls agrees size (subst (λ w. scheduled_next was.schedule w ≡ None) (sym (ap (λ m. m.world) t.stays)) t.none)
