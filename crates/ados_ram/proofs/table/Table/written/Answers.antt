use Rattle.std.proofs.Common.{◌∙◌, ◌++◌, [], ap}
use Rattle.ados_ram.specs.Place.{Place}
use Rattle.ados_ram.specs.Tree.{rows_written}
use Rattle.ados_ram.proofs.ChangeLemmas.{if_ok}
use Rattle.ados_ram.proofs.WrittenLemmas.{written-rows}
use Rattle.ados_ram.proofs.table.Table.written.Goals as goal

pub returns : goal.returns
returns c =
    if_ok c.written.result (λ place is. is ∙ ap (λ (p : Place). p ++ rows_written c.self.inside.root.1 [] c.names.result.now) c.root.ensures ∙ ap (rows_written c.self.inside.root.1 []) c.names.ensures
    ∙ written-rows c.self.inside.root.1 [] c.args.place.now c.self.view_is c.self.invariant.sorted) c.written.ensures
