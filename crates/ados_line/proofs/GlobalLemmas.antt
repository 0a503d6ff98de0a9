-- A line without a `$` asks for no variable, if no alias inserts one.
use Rattle.std.proofs.Common.{◌≡◌, ◌∙◌, ℕ, zero, suc, List, [], ◌∷◌, false, ◌==◌, length, take, flat_map, refl, ap}
use Rattle.std.specs.List.{list_any}
use Rattle.std.proofs.lemmas.Bool.{or_parts}
use Rattle.ados_text.specs.Text.{Text}
use Rattle.ados_vars.specs.Vars.{Pairs}
use Rattle.ados_line.specs.declared.letters.Letter.{Letter}
use Rattle.ados_line.specs.declared.letters.Letter.TheVariants.{Plain, Starred}
use Rattle.ados_line.specs.Alias.{with_alias}
use Rattle.ados_line.specs.Comment.{comment_start, without_comment}
use Rattle.ados_line.specs.Globals.{asks_beyond}
use Rattle.ados_line.specs.Letters.{letters_of, letter_bytes}
use Rattle.ados_line.proofs.AliasLemmas.{no_aliases}
use Rattle.ados_line.proofs.LetterLemmas.{letters-written}
use Rattle.ados_line.proofs.UnmarkedLemmas.{is_byte, rest-none}

none-beyond : (locals : Pairs) (ls : List Letter) → list_any (is_byte 36) (flat_map letter_bytes ls) ≡ false → asks_beyond locals ls ≡ false
none-beyond locals [] none = refl
none-beyond locals (Plain c ∷ ls) none =
    let parts = or_parts (c == 36) _ none in
    rw parts.0 (none-beyond locals ls parts.1)
none-beyond locals (Starred c ∷ ls) none = none-beyond locals ls (rest-none 36 (Starred c) (flat_map letter_bytes ls) none)

-- a byte that a line does not have, no part of it has
none-before : (n : ℕ) (bytes : List ℕ) → list_any (is_byte 36) bytes ≡ false → list_any (is_byte 36) (take n bytes) ≡ false
none-before zero bytes none = refl
none-before (suc n) [] none = refl
none-before (suc n) (c ∷ bytes) none =
    let parts = or_parts (c == 36) _ none in
    rw parts.0 (none-before n bytes parts.1)

pub asks-nothing : (locals : Pairs) (line : Text) → list_any (is_byte 36) line ≡ false → asks_beyond locals (letters_of line) ≡ false
asks-nothing locals line none = none-beyond locals (letters_of line) (ap (list_any (is_byte 36)) (letters-written line) ∙ none)

pub plain_line : (aliases locals : Pairs) (raw : Text) → length aliases ≡ 0 → list_any (is_byte 36) raw ≡ false
    → asks_beyond locals (letters_of (with_alias aliases (without_comment raw))) ≡ false
plain_line aliases locals raw none plain =
    ap (λ line. asks_beyond locals (letters_of line)) (no_aliases aliases (without_comment raw) none)
    ∙ asks-nothing locals (without_comment raw) (none-before (comment_start raw) raw plain)
