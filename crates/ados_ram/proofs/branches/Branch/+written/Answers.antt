use Rattle.std.proofs.Common.{◌≡◌, ◌∙◌, ◌++◌, ◌∷◌, [], ℕ, List, Some, None, sym, ap, refl, append_assoc}
use Rattle.std.specs.Option.{option_copied}
use Rattle.std.specs.FinMap.{find}
use Rattle.ados_text.specs.Text.{folded_text}
use Rattle.ados_text.specs.Name.{name_cmp}
use Rattle.ados_ram.specs.Place.{Place}
use Rattle.ados_ram.specs.Tree.{Kid, branch_rows, rows_found, rows_written}
use Rattle.ados_ram.proofs.ChangeLemmas.{if_ok}
use Rattle.ados_ram.proofs.WrittenLemmas.{written_on, written_as_asked}
use Rattle.ados_ram.proofs.branches.Branch.+written.Goals as goal

pub returns-in-None : goal.returns-in-None
returns-in-None t c =
    let kid : branch_rows (option_copied c.find.result) ≡ rows_found (find name_cmp (folded_text c.in-Some.name.now) c.self.inside.node.value.kids) = c.find.ensures.rows ∙ rw (c.deref.ensures) refl in
    let none : branch_rows None ≡ branch_rows (option_copied c.find.result) = sym (ap (λ o. branch_rows (option_copied o)) c.in-None.is) in
    let all : rows_written c.args.self.now.1 [] c.args.names.now ≡ c.args.names.now =
    written_as_asked c.self.inside.node.value.head.value.entry c.in-Some.name.now c.self.inside.node.value.kids c.args.self.now.1 c.in-Some.rest.now c.args.names.now (ap (λ (k : Kid). k.1) c.self.view_is) c.self.invariant.sorted c.in-Some.ensures.cases.0 (none ∙ kid) in
    if_ok c.joined.result (λ place is. is ∙ ap (λ (r : Place). c.args.written ++ r) (sym all)) c.joined.ensures

pub returns-in_ok-with-in-Some-find : goal.returns-in_ok-with-in-Some-find
returns-in_ok-with-in-Some-find t c =
    let kid : branch_rows (option_copied c.find.result) ≡ rows_found (find name_cmp (folded_text c.in-Some.name.now) c.self.inside.node.value.kids) = c.find.ensures.rows ∙ rw (c.deref.ensures) refl in
    let some : branch_rows (Some c.in-Some-find.kid.now) ≡ branch_rows (option_copied c.find.result) = sym (ap (λ o. branch_rows (option_copied o)) c.in-Some-find.is) in
    let name = c.entry.result.now.name in
    let all : rows_written c.args.self.now.1 [] c.args.names.now ≡ name ∷ rows_written c.in-Some-find.kid.now.1 [] c.in-Some.rest.now =
    written_on c.self.inside.node.value.head.value.entry c.in-Some.name.now c.self.inside.node.value.kids c.args.self.now.1 c.in-Some-find.kid.now.1 c.in-Some.rest.now c.args.names.now c.entry.result.now (ap (λ (k : Kid). k.1) c.self.view_is) c.self.invariant.sorted c.in-Some.ensures.cases.0 (some ∙ kid) c.entry.ensures in
    let with : c.in_ok-with-in-Some-find.field-0 ≡ c.args.written ++ name ∷ [] = c.in_ok-with-in-Some-find.ensures ∙ ap (λ (p : Place). p ++ c.in_ok-copy-in-Some-find.field-0 ∷ []) c.written.view_is ∙ ap (λ (n : List ℕ). c.args.written ++ n ∷ []) c.in_ok-copy-in-Some-find.ensures in
    if_ok c.written-in-Some-find.result
    (λ place is. is ∙ ap (λ (p : Place). p ++ rows_written c.in-Some-find.kid.now.1 [] c.in-Some.rest.now) with ∙ append_assoc c.args.written (name ∷ []) (rows_written c.in-Some-find.kid.now.1 [] c.in-Some.rest.now) ∙ ap (λ (r : Place). c.args.written ++ r) (sym all))
    c.written-in-Some-find.ensures
