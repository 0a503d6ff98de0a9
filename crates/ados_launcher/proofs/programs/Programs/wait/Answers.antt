use Rattle.std.proofs.Common.{◌∙◌, ap, false, is_some, map, slice_set}
use Rattle.ados_launcher.proofs.OpenLemmas.{table-waited}
use Rattle.ados_launcher.proofs.programs.Programs.wait.Goals as goal

pub returns-clause-held : goal.returns-clause-held
returns-clause-held g c =
    table-waited c.self.inside.places.items c.from.result c.wait_at.new.place c.wait_at.ensures.held
    ∙ (ap (λ k. slice_set (map is_some c.self.inside.places.items) k false) c.from.ensures ∙ ap (λ table. slice_set table c.args.number false) c.self.view_is)
