use Rattle.std.proofs.Common.{rules, ◌≡◌, ◌∙◌, ◌∷◌, [], sym, ap, subst, refl, Some, IsSome, arith, false}
use Rattle.std.specs.Option.{option_copied}
use Rattle.std.specs.FinMap.{find}
use Rattle.ados_text.specs.Text.{folded_text}
use Rattle.ados_text.specs.Name.{name_cmp}
use Rattle.ados_ram.specs.Place.{Key, key_of, place_cmp, key_suffix, is_root}
use Rattle.ados_ram.specs.Files.{Rows}
use Rattle.ados_ram.specs.Tree.{Kid, IsNamed, replace_kid, branch_rows, rows_found, entry_by_way, parent_key}
use Rattle.ados_ram.proofs.FilesLemmas.{clash}
use Rattle.ados_ram.proofs.ChangeLemmas.{if_ok, kids-are, replaced, leaf, in_order, deeper, stands, is_nil, not_nil}
use Rattle.ados_ram.proofs.branches.Branch.+with.Goals as goal

pub with_kids-requires : goal.with_kids-requires
with_kids-requires t c =
    let e : c.in_ok-with.field-0 ≡ replace_kid (folded_text c.in-Some.name.now) c.args.new c.self.inside.node.value.kids = c.in_ok-with.ensures ∙ rw (c.deref.ensures) refl in
    kids-are (folded_text c.in-Some.name.now) c.args.new c.self.inside.node.value.kids c.in_ok-with.field-0 c.self.invariant (in_order (key_of c.args.names.now) c.args.new c.requires.stands.named) e

pub returns-then-is_empty-clause-rows : goal.returns-then-is_empty-clause-rows
returns-then-is_empty-clause-rows t c =
    let e : c.in_ok-with.field-0 ≡ replace_kid (folded_text c.in-Some.name.now) c.args.new c.self.inside.node.value.kids = c.in_ok-with.ensures ∙ rw (c.deref.ensures) refl in
    let is : key_of c.args.names.now ≡ folded_text c.in-Some.name.now ∷ [] = ap key_of c.in-Some.ensures.cases.0 ∙ ap (λ (k : Key). folded_text c.in-Some.name.now ∷ k) (is_nil c.in-Some.rest.now c.if-is_empty.ensures) in
    if_ok c.with_kids.result
    (λ b made. replaced c.self.inside.node.value.head.value.entry (folded_text c.in-Some.name.now) [] (key_of c.args.names.now) (branch_rows c.args.new) c.args.self.now.1 c.args.new c.self.inside.node.value.kids c.in_ok-with.field-0 b.1
    (ap (λ (k : Kid). k.1) c.self.view_is) c.self.invariant (in_order (key_of c.args.names.now) c.args.new c.requires.stands.named) e is (λ ys. leaf c.args.new ys (find place_cmp ys (rows_found (find name_cmp (folded_text c.in-Some.name.now) c.self.inside.node.value.kids)))) (ap (λ (k : Kid). k.1) made))
    c.with_kids.ensures

pub unreachable-requires-in_default-find : goal.unreachable-requires-in_default-find
unreachable-requires-in_default-find t c =
    let found : branch_rows (option_copied c.find.result) ≡ rows_found (find name_cmp (folded_text c.in-Some.name.now) c.self.inside.node.value.kids) = c.find.ensures.rows ∙ rw (c.deref-2.ensures) refl in
    let there : IsSome (find place_cmp (parent_key (key_of c.in-Some.rest.now)) (rows_found (find name_cmp (folded_text c.in-Some.name.now) c.self.inside.node.value.kids))) =
    stands c.self.inside.node.value.head.value.entry c.self.inside.node.value.kids c.args.self.now.1 (folded_text c.in-Some.name.now) (key_of c.in-Some.rest.now) (key_of c.args.names.now)
    (ap (λ (k : Kid). k.1) c.self.view_is) c.self.invariant.sorted (ap key_of c.in-Some.ensures.cases.0) (not_nil c.in-Some.rest.now c.if-is_empty.ensures) c.requires.stands.inside in
    clash (subst (λ (r : Rows). IsSome (find place_cmp (parent_key (key_of c.in-Some.rest.now)) r)) (sym found ∙ ap (λ o. branch_rows (option_copied o)) c.in_default-find.is) there)

pub with-requires-2 : goal.with-requires-2
with-requires-2 t c =
    let found : branch_rows (option_copied c.find.result) ≡ rows_found (find name_cmp (folded_text c.in-Some.name.now) c.self.inside.node.value.kids) = c.find.ensures.rows ∙ rw (c.deref-2.ensures) refl in
    let rows : rows_found (find name_cmp (folded_text c.in-Some.name.now) c.self.inside.node.value.kids) ≡ c.in-Some-find.kid.now.1 = sym found ∙ ap (λ o. branch_rows (option_copied o)) c.in-Some-find.is in
    let root : is_root (key_of c.in-Some.rest.now) ≡ false = not_nil c.in-Some.rest.now c.if-is_empty.ensures in
    let there : IsSome (find place_cmp (parent_key (key_of c.in-Some.rest.now)) (rows_found (find name_cmp (folded_text c.in-Some.name.now) c.self.inside.node.value.kids))) =
    stands c.self.inside.node.value.head.value.entry c.self.inside.node.value.kids c.args.self.now.1 (folded_text c.in-Some.name.now) (key_of c.in-Some.rest.now) (key_of c.args.names.now)
    (ap (λ (k : Kid). k.1) c.self.view_is) c.self.invariant.sorted (ap key_of c.in-Some.ensures.cases.0) root c.requires.stands.inside in (
      omega (arith, c.in-Some.ensures.cases.1, c.decreases),
      (
        root,
        record {
          named = deeper (folded_text c.in-Some.name.now) (key_of c.in-Some.rest.now) c.args.new root (subst (λ (k : Key). IsNamed k c.args.new) (ap key_of c.in-Some.ensures.cases.0) c.requires.stands.named);
          inside = subst (λ (r : Rows). IsSome (find place_cmp (parent_key (key_of c.in-Some.rest.now)) r)) rows there;
        },
      ),
    )

pub with-requires-3 : goal.with-requires-3
with-requires-3 t c = c.in_ok-kid.ensures.name ∙ search rules

pub with_kids-requires-2 : goal.with_kids-requires-2
with_kids-requires-2 t c =
    let e : c.in_ok-with-2.field-0 ≡ replace_kid (folded_text c.in-Some.name.now) (Some c.in_ok-kid.kid) c.self.inside.node.value.kids = c.in_ok-with-2.ensures ∙ rw (c.deref-3.ensures) refl in
    kids-are (folded_text c.in-Some.name.now) (Some c.in_ok-kid.kid) c.self.inside.node.value.kids c.in_ok-with-2.field-0 c.self.invariant c.in_ok-kid.ensures.rows.whole e

pub returns-clause-rows : goal.returns-clause-rows
returns-clause-rows t c =
    let found : branch_rows (option_copied c.find.result) ≡ rows_found (find name_cmp (folded_text c.in-Some.name.now) c.self.inside.node.value.kids) = c.find.ensures.rows ∙ rw (c.deref-2.ensures) refl in
    let rows : rows_found (find name_cmp (folded_text c.in-Some.name.now) c.self.inside.node.value.kids) ≡ c.in-Some-find.kid.now.1 = sym found ∙ ap (λ o. branch_rows (option_copied o)) c.in-Some-find.is in
    let e : c.in_ok-with-2.field-0 ≡ replace_kid (folded_text c.in-Some.name.now) (Some c.in_ok-kid.kid) c.self.inside.node.value.kids = c.in_ok-with-2.ensures ∙ rw (c.deref-3.ensures) refl in
    if_ok c.with_kids-2.result
    (λ b made. replaced c.self.inside.node.value.head.value.entry (folded_text c.in-Some.name.now) (key_of c.in-Some.rest.now) (key_of c.args.names.now) (branch_rows c.args.new) c.args.self.now.1 (Some c.in_ok-kid.kid) c.self.inside.node.value.kids c.in_ok-with-2.field-0 b.1
    (ap (λ (k : Kid). k.1) c.self.view_is) c.self.invariant c.in_ok-kid.ensures.rows.whole e (ap key_of c.in-Some.ensures.cases.0)
    (λ ys. c.in_ok-kid.ensures.rows.found ys ∙ ap (λ (r : Rows). entry_by_way (key_suffix (key_of c.in-Some.rest.now) ys) (branch_rows c.args.new) (find place_cmp ys r)) (sym rows))
    (ap (λ (k : Kid). k.1) made))
    c.with_kids-2.ensures
