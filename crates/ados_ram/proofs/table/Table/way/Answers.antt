use Rattle.std.proofs.Common.{◌∙◌, []}
use Rattle.ados_ram.specs.Place.{key_of}
use Rattle.ados_ram.proofs.TableLemmas.{way-rows}
use Rattle.ados_ram.proofs.table.Table.way.Goals as goal

pub returns : goal.returns
returns c = c.way.ensures ∙ way-rows c.self.inside.root.1 [] (key_of c.args.names.now) c.self.view_is c.self.invariant.sorted
