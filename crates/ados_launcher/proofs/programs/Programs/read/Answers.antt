use Rattle.std.proofs.Common.{◌∙◌}
use Rattle.ados_launcher.proofs.OpenLemmas.{table-read}
use Rattle.ados_launcher.proofs.programs.Programs.read.Goals as goal

pub returns-clause-held : goal.returns-clause-held
returns-clause-held g c = table-read c.self.inside.places.items c.from.result c.in-Some.place.now c.read_at.new.place c.in-Some.ensures.value c.read_at.ensures.held ∙ c.self.view_is
