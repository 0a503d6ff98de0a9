use Rattle.std.proofs.Common.{◌∙◌, ap, sym}
use Rattle.std.specs.FinMap as map
use Rattle.ados_assign.specs.Uses.{has_defers}
use Rattle.ados_assign.proofs.RowsLemmas.{AreRowsOf, values_rows}
use Rattle.ados_assign.proofs.UsesLemmas.{none_bound}
use Rattle.ados_assign.proofs.assigns.Assigns.has_defers.Goals as goal

pub returns-clause-there : goal.returns-clause-there
returns-clause-there c =
    let r : AreRowsOf c.self.inside.rows.value.items c.args.self.now = record { is = c.self.view_is; sorted = c.self.invariant.0 } in
    c.self.invariant.1 ∙ ap has_defers (sym (values_rows c.self.inside.rows.value.items r))

pub returns-clause-binds_nothing : goal.returns-clause-binds_nothing
returns-clause-binds_nothing c = λ none used files.
    none_bound files used c.args.self.now (map.values c.args.self.now) (sym (returns-clause-there c) ∙ none)
