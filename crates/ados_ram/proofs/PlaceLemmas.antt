-- lists of names are compared as the keys of their places are
use Rattle.std.proofs.Common.{ℕ, ◌≡◌, List, ◌∙◌, ap, sym}
use Rattle.std.specs.Ordering.{is_eq}
use Rattle.std.specs.Cmp.Lexicographic.{pointwise, slice_cmp, lists_ties}
use Rattle.std.specs.Cmp.Derive.Mapped.{lex_map}
use Rattle.ados_text.specs.Text.{folded_text, is_same}
use Rattle.ados_text.specs.Name.{name_cmp}
use Rattle.ados_text.proofs.NameLemmas.{alike}
use Rattle.ados_ram.specs.Place.{key_of, place_cmp, is_same_key}

pub order_by_key : (a b : List (List ℕ)) → slice_cmp (λ x y. name_cmp (folded_text x) (folded_text y)) a b ≡ place_cmp (key_of a) (key_of b)
order_by_key a b = sym (lex_map folded_text name_cmp a b)

pub same_by_key : (a b : List (List ℕ)) → pointwise is_same a b ≡ is_same_key (key_of a) (key_of b)
same_by_key a b = lists_ties (λ x y. name_cmp (folded_text x) (folded_text y)) alike a b ∙ ap is_eq (order_by_key a b)
