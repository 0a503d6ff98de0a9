-- The parts of a line, one after another.
use Rattle.std.proofs.Common.{ℕ, suc, ◌<◌, ◌≤◌, ◌≡◌, ◌∙◌, List, [], ◌∷◌, ◌++◌, true, false, Option, Some, None, nat_lt, refl, sym, ap, append-nil, append_assoc, arith}
use Rattle.std.proofs.lemmas.Bool.Decides.{nat_tests}
use Rattle.std.specs.Option.{option_map_or}
use Rattle.ados_text.specs.Text.{Text}
use Rattle.ados_items.specs.Items.{item_at}
use Rattle.ados_check.specs.Arguments.{next_end_of_run, part_at, part_end, parts_from, redirection_search, redirects, run_search, word_at}
use Rattle.ados_check.specs.declared.arguments.Part.{Part}
use Rattle.ados_check.specs.declared.arguments.Word.{Word}

-- a run ends, or goes on
pub run-ends : (n : ℕ) (line : Text) (end : ℕ) → next_end_of_run end (item_at true line end) ≡ None → run_search (suc n) line end ≡ end
run-ends n line end none = rw none refl

pub run-goes : (n : ℕ) (line : Text) (end to : ℕ) → next_end_of_run end (item_at true line end) ≡ Some to → run_search (suc n) line end ≡ run_search n line to
run-goes n line end to some = rw some refl

-- a line has no further word, or one that is a redirection, or one that is none
pub no-word : (n : ℕ) (line : Text) (place : ℕ) → word_at line place ≡ None → redirection_search (suc n) line place ≡ false
no-word n line place none = rw none refl

pub redirected : (n : ℕ) (line : Text) (place : ℕ) (word : Word) → word_at line place ≡ Some word → redirects line word ≡ true
    → redirection_search (suc n) line place ≡ true
redirected n line place word some is = rw (some, is) refl

pub past-word : (n : ℕ) (line : Text) (place : ℕ) (word : Word) → word_at line place ≡ Some word → redirects line word ≡ false
    → redirection_search (suc n) line place ≡ redirection_search n line word.to
past-word n line place word some is = rw (some, is) refl

pub has-width : (given width : ℕ) → given ≡ width → 0 < given → nat_lt 0 width ≡ true
has-width given width same some = grind (arith, nat_tests)

pub has-none : (given width : ℕ) → given ≡ width → given ≤ 0 → nat_lt 0 width ≡ false
has-none given width same none = grind (arith, nat_tests)

found-part : (n : ℕ) (line : Text) (place : ℕ) (found : Option Part) → part_at line place ≡ found
    → parts_from (suc n) line place ≡ option_map_or (λ part. part ∷ parts_from n line (part_end part)) found []
found-part n line place found e = ap (λ f. option_map_or (λ part. part ∷ parts_from n line (part_end part)) f []) e

-- a line has no further part: those so far are all
pub parts-end : (whole items : List Part) (n : ℕ) (line : Text) (place : ℕ) → whole ≡ items ++ parts_from (suc n) line place → part_at line place ≡ None
    → items ≡ whole
parts-end whole items n line place h none = sym (h ∙ ap (λ ps. items ++ ps) (found-part n line place None none) ∙ append-nil items)

-- a line has a further part: those so far with it, and those to come
pub parts-pushed : (whole items new : List Part) (n : ℕ) (line : Text) (place : ℕ) (part : Part) (to : ℕ) → whole ≡ items ++ parts_from (suc n) line place
    → part_at line place ≡ Some part → new ≡ items ++ part ∷ [] → to ≡ part_end part → whole ≡ new ++ parts_from n line to
parts-pushed whole items new n line place part to h some pushed moved =
    h
    ∙ ap (λ ps. items ++ ps) (found-part n line place (Some part) some ∙ ap (λ k. part ∷ parts_from n line k) (sym moved))
    ∙ sym (append_assoc items (part ∷ []) (parts_from n line to))
    ∙ ap (λ ps. ps ++ parts_from n line to) (sym pushed)
