use Rattle.std.proofs.Common.{◌≡◌, ◌∙◌, sym, ap, Some, None, arith, refl}
use Rattle.std.specs.Option.{option_copied}
use Rattle.std.specs.FinMap.{find}
use Rattle.ados_text.specs.Text.{folded_text}
use Rattle.ados_text.specs.Name.{name_cmp}
use Rattle.ados_ram.specs.Place.{key_of}
use Rattle.ados_ram.specs.Tree.{Kid, branch_rows, subtree_rows, rows_found}
use Rattle.ados_ram.proofs.TreeLemmas.{from_none, from_kid}
use Rattle.ados_ram.proofs.branches.Branch.+at.Goals as goal

pub at-requires : goal.at-requires
at-requires t c = (omega (arith, c.in-Some.ensures.cases.1, c.decreases), tt)

pub returns-in_default : goal.returns-in_default
returns-in_default t c = from_none c.args.names.now c.args.self.now.1 c.in_default.ensures.cases

pub returns-in-None : goal.returns-in-None
returns-in-None t c =
    let kid : branch_rows (option_copied c.find.result) ≡ rows_found (find name_cmp (folded_text c.in-Some.name.now) c.self.inside.node.value.kids) = c.find.ensures.rows ∙ rw (c.deref.ensures) refl in
    let none : branch_rows None ≡ branch_rows (option_copied c.find.result) = sym (ap (λ o. branch_rows (option_copied o)) c.in-None.is) in
    sym (from_kid c.self.inside.node.value.head.value.entry c.self.inside.node.value.kids c.args.self.now.1 (folded_text c.in-Some.name.now) (key_of c.in-Some.rest.now) (key_of c.args.names.now) (ap (λ (k : Kid). k.1) c.self.view_is) c.self.invariant.sorted (ap key_of c.in-Some.ensures.cases.0)
    ∙ ap (subtree_rows (key_of c.in-Some.rest.now)) (sym (none ∙ kid)))

pub returns-in-Some-find : goal.returns-in-Some-find
returns-in-Some-find t c =
    let kid : branch_rows (option_copied c.find.result) ≡ rows_found (find name_cmp (folded_text c.in-Some.name.now) c.self.inside.node.value.kids) = c.find.ensures.rows ∙ rw (c.deref.ensures) refl in
    let some : branch_rows (Some c.in-Some-find.kid.now) ≡ branch_rows (option_copied c.find.result) = sym (ap (λ o. branch_rows (option_copied o)) c.in-Some-find.is) in
    c.at.ensures
    ∙ sym (from_kid c.self.inside.node.value.head.value.entry c.self.inside.node.value.kids c.args.self.now.1 (folded_text c.in-Some.name.now) (key_of c.in-Some.rest.now) (key_of c.args.names.now) (ap (λ (k : Kid). k.1) c.self.view_is) c.self.invariant.sorted (ap key_of c.in-Some.ensures.cases.0)
    ∙ ap (subtree_rows (key_of c.in-Some.rest.now)) (sym (some ∙ kid)))
