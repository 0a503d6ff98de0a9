use Rattle.std.proofs.Common.{◌≡◌, ◌∙◌, [], sym, ap}
use Rattle.std.specs.Option.{option_copied}
use Rattle.std.specs.FinMap as map
use Rattle.ados_ram.specs.Place.{key_of}
use Rattle.ados_ram.specs.FileOperations.{has_descendants}
use Rattle.ados_ram.specs.Tree.{branch_rows}
use Rattle.ados_ram.proofs.RowsLemmas.{entries_rows}
use Rattle.ados_ram.proofs.WalkLemmas.{any-below}
use Rattle.ados_ram.proofs.table.Table.has_descendants.Goals as goal

pub returns-in-None : goal.returns-in-None
returns-in-None c =
    let key = key_of c.args.names.now in
    let all : has_descendants key (map.entries c.args.self.now) ≡ has_descendants key c.self.inside.root.1 = ap (has_descendants key) (entries_rows c.self.inside.root.1 (record { is = c.self.view_is; sorted = c.self.invariant.sorted })) in
    ap (has_descendants []) (sym (ap (λ o. branch_rows (option_copied o)) c.in-None.is) ∙ c.at.ensures) ∙ sym (all ∙ any-below key c.self.inside.root.1)

pub returns-in-Some : goal.returns-in-Some
returns-in-Some c =
    let key = key_of c.args.names.now in
    let all : has_descendants key (map.entries c.args.self.now) ≡ has_descendants key c.self.inside.root.1 = ap (has_descendants key) (entries_rows c.self.inside.root.1 (record { is = c.self.view_is; sorted = c.self.invariant.sorted })) in
    c.is_parent.ensures ∙ ap (has_descendants []) (sym (ap (λ o. branch_rows (option_copied o)) c.in-Some.is) ∙ c.at.ensures) ∙ sym (all ∙ any-below key c.self.inside.root.1)
