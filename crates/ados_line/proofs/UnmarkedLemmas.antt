-- a line without a `$`, and one without a back-tick, stays as it is; a line without special bytes has neither, and no mark
use Rattle.std.proofs.Common.{◌≡◌, ◌∙◌, ℕ, zero, suc, ◌+◌, ◌<◌, List, [], ◌∷◌, ◌++◌, Bool, false, ◌==◌, ◌||◌, None, position, take, drop, flat_map, append_assoc, refl, ap, arith}
use Rattle.std.specs.List.{list_any, position_from}
use Rattle.std.proofs.lemmas.Iterator.Adapters.{position_from-zero}
use Rattle.std.proofs.lemmas.Bool.{or_parts}
use Rattle.std.proofs.lemmas.Bool.Decides.{nat_tests}
use Rattle.ados_text.specs.Text.{to_ascii, IsText}
use Rattle.ados_line.specs.declared.letters.Letter.{Letter}
use Rattle.ados_line.specs.declared.letters.Letter.TheVariants.{Plain, Starred}
use Rattle.ados_line.specs.Letters.{letter_bytes, letter_text, starless_text, letters_of}
use Rattle.ados_line.specs.Cut.{cut_of, expanded_of_cut}
use Rattle.ados_line.specs.Signs.{is_mark, is_special}
use Rattle.ados_line.specs.Expansion.{then_cut, read_rest_of_text}
use Rattle.ados_line.specs.Ticks.{is_tick, text_of, tickless_text, within_bytes, by_first}
use Rattle.ados_line.specs.Values.{Variables, values}
use Rattle.ados_line.proofs.LetterLemmas.{letters-written}

-- a byte of a text is ASCII
kept : (c : ℕ) → c < 128 → to_ascii c ≡ c
kept c h = grind (arith, nat_tests)

first-ascii : (c : ℕ) (cs : List ℕ) → IsText (c ∷ cs) → c < 128
first-ascii c cs h = h 0 0 (omega arith)

rest-ascii : (c : ℕ) (cs : List ℕ) → IsText (c ∷ cs) → IsText cs
rest-ascii c cs h = λ k d lt. h (suc k) d (omega arith)

-- the byte of a text without this mark
abbrev pub is_byte : ℕ → ℕ → Bool
is_byte mark c = c == mark

-- a character without this mark, as text
bared-plain : (mark : ℕ) (letter : Letter) (bytes : List ℕ) → list_any (is_byte mark) (letter_bytes letter ++ bytes) ≡ false → IsText (letter_bytes letter ++ bytes)
    → starless_text mark letter ≡ letter_bytes letter
bared-plain mark (Plain c) bytes none text = ap (λ b. b ∷ []) (kept c (first-ascii c bytes text))
bared-plain mark (Starred c) bytes none text =
    let other : (c == mark) ≡ false = (or_parts (c == mark) _ (or_parts (42 == mark) _ none).1).0 in
    rw other (ap (λ b. 42 ∷ b ∷ []) (kept c (first-ascii c bytes (rest-ascii 42 (c ∷ bytes) text))))

-- and the bytes after it
pub rest-none : (mark : ℕ) (letter : Letter) (bytes : List ℕ) → list_any (is_byte mark) (letter_bytes letter ++ bytes) ≡ false → list_any (is_byte mark) bytes ≡ false
rest-none mark (Plain c) bytes none = (or_parts _ _ none).1
rest-none mark (Starred c) bytes none = (or_parts _ _ (or_parts _ _ none).1).1

rest-text : (letter : Letter) (bytes : List ℕ) → IsText (letter_bytes letter ++ bytes) → IsText bytes
rest-text (Plain c) bytes text = rest-ascii c bytes text
rest-text (Starred c) bytes text = rest-ascii c bytes (rest-ascii 42 (c ∷ bytes) text)

bared-all : (mark : ℕ) (ls : List Letter) → list_any (is_byte mark) (flat_map letter_bytes ls) ≡ false → IsText (flat_map letter_bytes ls)
    → flat_map (starless_text mark) ls ≡ flat_map letter_bytes ls
bared-all mark [] none text = refl
bared-all mark (l ∷ ls) none text =
    let bytes = flat_map letter_bytes ls in
    ap (λ x. x ++ flat_map (starless_text mark) ls) (bared-plain mark l bytes none text)
    ∙ ap (λ x. letter_bytes l ++ x) (bared-all mark ls (rest-none mark l bytes none) (rest-text l bytes text))

-- without a `$` each character stands for itself
first-plain : (v : Variables) (l : Letter) (ls : List Letter) (bytes : List ℕ) → list_any (is_byte 36) (letter_bytes l ++ bytes) ≡ false
    → values v 0 (l ∷ ls) ≡ starless_text 36 l ++ values v 0 ls
first-plain v (Plain c) ls bytes none =
    let other : (c == 36) ≡ false = (or_parts _ _ none).0 in
    rw other refl
first-plain v (Starred c) ls bytes none = refl

values-bared : (v : Variables) (ls : List Letter) → list_any (is_byte 36) (flat_map letter_bytes ls) ≡ false → values v 0 ls ≡ flat_map (starless_text 36) ls
values-bared v [] none = refl
values-bared v (l ∷ ls) none =
    let bytes = flat_map letter_bytes ls in
    first-plain v l ls bytes none ∙ ap (λ x. starless_text 36 l ++ x) (values-bared v ls (rest-none 36 l bytes none))

pub no_values : (v : Variables) (line : List ℕ) → list_any (is_byte 36) line ≡ false → IsText line → values v 0 (letters_of line) ≡ line
no_values v line none text =
    let ls = letters_of line in
    let same = letters-written line in
    let absent : list_any (is_byte 36) (flat_map letter_bytes ls) ≡ false = ap (list_any (is_byte 36)) same ∙ none in
    let ascii : IsText (flat_map letter_bytes ls) = rw same text in
    values-bared v ls absent ∙ bared-all 36 ls absent ascii ∙ same

pub ruleset plain_values = (no_values)

-- characters without this mark are the same as written, and without the stars before it
spelled-plain : (letter : Letter) (bytes : List ℕ) → IsText (letter_bytes letter ++ bytes) → letter_text letter ≡ letter_bytes letter
spelled-plain (Plain c) bytes text = ap (λ b. b ∷ []) (kept c (first-ascii c bytes text))
spelled-plain (Starred c) bytes text = ap (λ b. 42 ∷ b ∷ []) (kept c (first-ascii c bytes (rest-ascii 42 (c ∷ bytes) text)))

parts-unticked : (n : ℕ) (ls : List Letter) → list_any (is_byte 96) (flat_map letter_bytes ls) ≡ false → IsText (flat_map letter_bytes ls)
    → text_of (take n ls) ++ tickless_text (drop n ls) ≡ flat_map letter_bytes ls
parts-unticked zero ls none text = bared-all 96 ls none text
parts-unticked (suc n) [] none text = refl
parts-unticked (suc n) (l ∷ ls) none text =
    let bytes = flat_map letter_bytes ls in
    append_assoc (letter_text l) (text_of (take n ls)) (tickless_text (drop n ls))
    ∙ ap (λ x. x ++ (text_of (take n ls) ++ tickless_text (drop n ls))) (spelled-plain l bytes text)
    ∙ ap (λ x. letter_bytes l ++ x) (parts-unticked n ls (rest-none 96 l bytes none) (rest-text l bytes text))

-- a text without a back-tick is not split
rest-unmarked : (n : ℕ) (ls : List Letter) → list_any (is_byte 96) (flat_map letter_bytes ls) ≡ false → list_any (is_byte 96) (flat_map letter_bytes (drop n ls)) ≡ false
rest-unmarked zero ls none = none
rest-unmarked (suc n) [] none = none
rest-unmarked (suc n) (l ∷ ls) none = rest-unmarked n ls (rest-none 96 l (flat_map letter_bytes ls) none)

no-tick-from : (at : ℕ) (ls : List Letter) → list_any (is_byte 96) (flat_map letter_bytes ls) ≡ false → position_from is_tick at ls ≡ None
no-tick-from at [] none = refl
no-tick-from at (Plain c ∷ ls) none =
    let other : (c == 96) ≡ false = (or_parts _ _ none).0 in
    rw other (no-tick-from (at + 1) ls (or_parts _ _ none).1)
no-tick-from at (Starred c ∷ ls) none = no-tick-from (at + 1) ls (rest-none 96 (Starred c) (flat_map letter_bytes ls) none)

no-tick : (ls : List Letter) → list_any (is_byte 96) (flat_map letter_bytes ls) ≡ false → position is_tick ls ≡ None
no-tick ls none = position_from-zero is_tick ls ∙ no-tick-from 0 ls none

pub no_ticks : (size : ℕ) (line : List ℕ) → list_any (is_byte 96) line ≡ false → IsText line → read_rest_of_text size line ≡ expanded_of_cut (cut_of line)
no_ticks size line none text =
    let ls = letters_of line in
    let n = within_bytes size ls in
    let same = letters-written line in
    let absent : list_any (is_byte 96) (flat_map letter_bytes ls) ≡ false = ap (list_any (is_byte 96)) same ∙ none in
    let ascii : IsText (flat_map letter_bytes ls) = rw same text in
    ap (λ o. then_cut (by_first (text_of (take n ls)) (drop n ls) o)) (no-tick (drop n ls) (rest-unmarked n ls absent))
    ∙ ap (λ t. expanded_of_cut (cut_of t)) (parts-unticked n ls absent ascii ∙ same)

pub ruleset plain_ticks = (no_ticks)

-- none of a line's bytes is special: none is a `$` or a back-tick, and none is a mark
plain-parts : (line : List ℕ) → list_any is_special line ≡ false
    → (list_any (is_byte 36) line ≡ false) × (list_any (is_byte 96) line ≡ false) × (list_any is_mark line ≡ false)
plain-parts [] none = (refl, refl, refl)
plain-parts (c ∷ cs) none =
    let all = or_parts (is_special c) (list_any is_special cs) none in
    let rest = plain-parts cs all.1 in
    let first = or_parts (c == 36 || c == 96) (is_mark c) all.0 in
    let signs = or_parts (c == 36) (c == 96) first.0 in
    (rw (signs.0) rest.0, rw (signs.1) rest.1, rw (first.1) rest.2)

pub no_dollar : (line : List ℕ) → list_any is_special line ≡ false → list_any (is_byte 36) line ≡ false
no_dollar line none = (plain-parts line none).0

pub no_back_tick : (line : List ℕ) → list_any is_special line ≡ false → list_any (is_byte 96) line ≡ false
no_back_tick line none = (plain-parts line none).1

pub no_mark : (line : List ℕ) → list_any is_special line ≡ false → list_any is_mark line ≡ false
no_mark line none = (plain-parts line none).2

pub ruleset plain_bytes = (no_dollar, no_back_tick, no_mark)
