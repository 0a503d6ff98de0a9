use Rattle.std.proofs.Common.{rules, ◌≡◌, ◌∙◌, [], sym, ap, refl, Some, None, true}
use Rattle.std.specs.Option.{option_copied}
use Rattle.std.specs.FinMap.{find}
use Rattle.ados_text.specs.Text.{folded_text}
use Rattle.ados_text.specs.Name.{name_cmp}
use Rattle.ados_ram.specs.Place.{key_of}
use Rattle.ados_ram.specs.Entry.{is_directory}
use Rattle.ados_ram.specs.Tree.{Kid, branch_rows, rows_found}
use Rattle.ados_ram.proofs.WayLemmas.{way_on, lost}
use Rattle.ados_ram.proofs.branches.Branch.+way.Goals as goal

pub returns-in-Some-find : goal.returns-in-Some-find
returns-in-Some-find t c =
    let kid : branch_rows (option_copied c.find.result) ≡ rows_found (find name_cmp (folded_text c.in-Some.name.now) c.self.inside.node.value.kids) = c.find.ensures.rows ∙ rw (c.deref.ensures) refl in
    let some : branch_rows (Some c.in-Some-find.kid.now) ≡ branch_rows (option_copied c.find.result) = sym (ap (λ o. branch_rows (option_copied o)) c.in-Some-find.is) in
    let dir : is_directory c.self.inside.node.value.head.value.entry ≡ true = search rules in
    c.way.ensures
    ∙ sym (way_on c.self.inside.node.value.head.value.entry (folded_text c.in-Some.name.now) c.self.inside.node.value.kids c.args.self.now.1 c.in-Some-find.kid.now.1 (key_of c.args.names.now) (key_of c.in-Some.rest.now)
    (ap (λ (k : Kid). k.1) c.self.view_is) c.self.invariant.sorted (ap key_of c.in-Some.ensures.cases.0) (some ∙ kid) dir)

pub returns-in-None-2 : goal.returns-in-None-2
returns-in-None-2 t c =
    let kid : branch_rows (option_copied c.find.result) ≡ rows_found (find name_cmp (folded_text c.in-Some.name.now) c.self.inside.node.value.kids) = c.find.ensures.rows ∙ rw (c.deref.ensures) refl in
    let none : branch_rows None ≡ branch_rows (option_copied c.find.result) = sym (ap (λ o. branch_rows (option_copied o)) c.in-None.is) in
    let dir : is_directory c.self.inside.node.value.head.value.entry ≡ true = search rules in
    lost c.in-Some.rest.now c.if-is_empty.ensures
    ∙ sym (way_on c.self.inside.node.value.head.value.entry (folded_text c.in-Some.name.now) c.self.inside.node.value.kids c.args.self.now.1 [] (key_of c.args.names.now) (key_of c.in-Some.rest.now)
    (ap (λ (k : Kid). k.1) c.self.view_is) c.self.invariant.sorted (ap key_of c.in-Some.ensures.cases.0) (none ∙ kid) dir)
