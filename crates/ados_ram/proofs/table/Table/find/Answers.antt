use Rattle.std.proofs.Common.{◌∙◌, sym}
use Rattle.ados_ram.specs.Place.{key_of}
use Rattle.ados_ram.proofs.RowsLemmas.{get_rows}
use Rattle.ados_ram.proofs.table.Table.find.Goals as goal

pub returns : goal.returns
returns c = c.find.ensures ∙ sym (get_rows c.self.inside.root.1 (key_of c.args.names.now) c.self.view_is c.self.invariant.sorted)
