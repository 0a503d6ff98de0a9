use Rattle.std.proofs.Common.{◌∙◌, ap, is_some, map}
use Rattle.ados_launcher.specs.Open.{next_open_table}
use Rattle.ados_launcher.proofs.OpenLemmas.{table-started}
use Rattle.ados_launcher.proofs.programs.Programs.start.Goals as goal

pub returns-clause-held : goal.returns-clause-held
returns-clause-held g c =
    table-started c.self.inside.places.items c.from.result c.in-Some.place.now c.start_at.new.place c.start_at.result c.in-Some.ensures.item.3.0 c.in-Some.ensures.value c.start_at.ensures.held
    ∙ (ap (λ k. next_open_table k c.start_at.result (map is_some c.self.inside.places.items)) c.from.ensures ∙ ap (next_open_table c.args.job.now.shell c.start_at.result) c.self.view_is)
