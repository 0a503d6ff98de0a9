use Rattle.std.proofs.Common.{◌∙◌, sym, ap}
use Rattle.ados_ram.specs.Place.{key_of}
use Rattle.ados_ram.specs.Tree.{subtree_rows}
use Rattle.ados_ram.proofs.RowsLemmas.{entries_rows}
use Rattle.ados_ram.proofs.table.Table.below.Goals as goal

pub returns : goal.returns
returns c =
    c.new.ensures ∙ c.at.ensures ∙ sym (ap (subtree_rows (key_of c.args.names.now)) (entries_rows c.self.inside.root.1 (record { is = c.self.view_is; sorted = c.self.invariant.sorted })))
