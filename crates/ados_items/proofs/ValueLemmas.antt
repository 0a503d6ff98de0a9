-- a text without a star stands for itself; the text of an item is ASCII
use Rattle.std.proofs.Common.{ℕ, ◌≡◌, ◌<◌, List, [], ◌∷◌, false, ◌==◌, map, slice_index_or, refl, ap, arith}
use Rattle.std.specs.List.{list_any}
use Rattle.std.proofs.lemmas.Bool.{or_parts}
use Rattle.std.proofs.lemmas.Bool.Decides.{nat_tests}
use Rattle.std.proofs.lemmas.List.Elements.{All-map}
use Rattle.ados_text.specs.Text.{to_ascii, IsText}
use Rattle.ados_items.specs.Items.{is_star, unescaped_bytes, bytes_between, value_of}
use Rattle.ados_items.specs.declared.items.Item.{Item}
use Rattle.ados_items.specs.declared.items.Item.TheVariants.{Word, Quoted, Equal, End, Unmatched}

pub without_star : (text : List ℕ) → list_any is_star text ≡ false → unescaped_bytes false text ≡ text
without_star [] e = refl
without_star (c ∷ cs) e =
    let others = or_parts (c == 42) (list_any is_star cs) e in
    rw others.0 (ap (λ rest. c ∷ rest) (without_star cs others.1))

below : (c : ℕ) → to_ascii c < 128
below c = grind (arith, nat_tests)

ascii-text : (bytes : List ℕ) → IsText (map to_ascii bytes)
ascii-text bytes = All-map (λ b. b < 128) to_ascii bytes (λ k d h. below (slice_index_or bytes k d))

pub value_text : (line : List ℕ) (item : Item) → IsText (value_of line item)
value_text line (Word from to) = ascii-text (bytes_between line from to)
value_text line (Quoted from to) = ascii-text (unescaped_bytes false (bytes_between line from to))
value_text line (Equal place) = ascii-text (61 ∷ [])
value_text line (End place) = ascii-text []
value_text line (Unmatched from) = ascii-text []
