-- The options of lines, one line more, and the first that is not UTF-8.
use Rattle.std.proofs.Common.{ℕ, zero, suc, ◌+◌, ◌<◌, ◌≡◌, ◌∙◌, Bool, true, false, cond, not, List, [], ◌∷◌, ◌++◌, map, drop, length, get_or, refl, sym, ap, arith, Bor, Option, Some, None}
use Rattle.std.proofs.lemmas.List.{append_assoc}
use Rattle.std.proofs.lemmas.Str.{IsUtf8-from_is_utf8}
use Rattle.std.specs.List.{cons_option, enumerate_from, filter_map, find}
use Rattle.std.specs.Option.{option_map}
use Rattle.std.specs.Str.{IsUtf8, is_utf8}
use Rattle.ados_text.specs.Text.{Bytes}
use Rattle.execute_options.specs.OptionLines.{NumberedOption, first_bad_line, numbered_option}

abbrev pub shown : List (Bor (List ℕ)) → List Bytes
shown lines = map (λ line. line.now) lines

-- the options of lines that are numbered from a number on
abbrev pub options_from : ℕ → List (Bor (List ℕ)) → List NumberedOption
options_from number lines = filter_map numbered_option (enumerate_from number (shown lines))

-- what is left begins with the line at its place
left : (lines : List (Bor (List ℕ))) (place : ℕ) (other : Bor (List ℕ)) → place < length lines → drop place lines ≡ get_or lines place other ∷ drop (suc place) lines
left [] place other within = absurd (omega (arith, within))
left (first ∷ lines) zero other within = refl
left (first ∷ lines) (suc place) other within = left lines place other (omega (arith, within))

first_more : {X : Type 0} (option : Option X) (options : List X) → cons_option option options ≡ cons_option option [] ++ options
first_more None options = refl
first_more (Some word) options = refl

-- the options that are left, with the first line apart
parted : (lines : List (Bor (List ℕ))) (place next : ℕ) (other : Bor (List ℕ)) → place < length lines → next ≡ suc place
    → options_from next (drop place lines) ≡ cons_option (numbered_option (next, (get_or lines place other).now)) [] ++ options_from (next + 1) (drop next lines)
parted lines place next other within is_next =
    ap (options_from next) (left lines place other within ∙ ap (λ n. get_or lines place other ∷ drop n lines) (sym is_next))
    ∙ first_more (numbered_option (next, (get_or lines place other).now)) (options_from (next + 1) (drop next lines))

-- a line is taken
pub line_more : (lines : List (Bor (List ℕ))) (place next : ℕ) (other : Bor (List ℕ)) (options done more : List NumberedOption) → place < length lines → next ≡ suc place
    → options ≡ done ++ options_from next (drop place lines)
    → more ≡ done ++ cons_option (numbered_option (next, (get_or lines place other).now)) []
    → options ≡ more ++ options_from (next + 1) (drop next lines)
line_more lines place next other options done more within is_next before after =
    let first = cons_option (numbered_option (next, (get_or lines place other).now)) [] in
    before
    ∙ ap (λ l. done ++ l) (parted lines place next other within is_next)
    ∙ sym (append_assoc done first (options_from (next + 1) (drop next lines)))
    ∙ ap (λ l. l ++ options_from (next + 1) (drop next lines)) (sym after)

behind-test : (bad : Bool) (option : NumberedOption) (xs ys : List NumberedOption) → (first_bad_line xs ≡ None → first_bad_line (xs ++ ys) ≡ first_bad_line ys)
    → option_map (λ o. o.number) (cond bad (Some option) (find (λ o. not (is_utf8 o.word)) xs)) ≡ None
    → option_map (λ o. o.number) (cond bad (Some option) (find (λ o. not (is_utf8 o.word)) (xs ++ ys))) ≡ first_bad_line ys
behind-test true option xs ys more none = cc
behind-test false option xs ys more none = more none

-- behind options that are all UTF-8
pub behind_good : (xs ys : List NumberedOption) → first_bad_line xs ≡ None → first_bad_line (xs ++ ys) ≡ first_bad_line ys
behind_good [] ys none = refl
behind_good (x ∷ xs) ys none = behind-test (not (is_utf8 x.word)) x xs ys (behind_good xs ys) none

first-test : (bad : Bool) (option : NumberedOption) (ys : List NumberedOption) (number : ℕ) → option_map (λ o. o.number) (cond bad (Some option) None) ≡ Some number
    → option_map (λ o. o.number) (cond bad (Some option) (find (λ o. not (is_utf8 o.word)) ys)) ≡ Some number
first-test true option ys number is = is
first-test false option ys number is = cc

first_bad : (option : Option NumberedOption) (ys : List NumberedOption) (number : ℕ) → first_bad_line (cons_option option []) ≡ Some number → first_bad_line (cons_option option [] ++ ys) ≡ Some number
first_bad None ys number is = cc
first_bad (Some option) ys number is = first-test (not (is_utf8 option.word)) option ys number is

-- a line that is not UTF-8 is the first, if all options before it are
pub bad_here : (lines : List (Bor (List ℕ))) (place next : ℕ) (other : Bor (List ℕ)) (options done : List NumberedOption) → place < length lines → next ≡ suc place
    → options ≡ done ++ options_from next (drop place lines) → first_bad_line done ≡ None
    → first_bad_line (cons_option (numbered_option (next, (get_or lines place other).now)) []) ≡ Some next → first_bad_line options ≡ Some next
bad_here lines place next other options done within is_next is good bad =
    ap first_bad_line is ∙ behind_good done (options_from next (drop place lines)) good ∙ ap first_bad_line (parted lines place next other within is_next)
    ∙ first_bad (numbered_option (next, (get_or lines place other).now)) (options_from (next + 1) (drop next lines)) next bad

-- an option that is taken is UTF-8
pub good_more : (done more : List NumberedOption) (option : Option NumberedOption) → first_bad_line done ≡ None → first_bad_line (cons_option option []) ≡ None
    → more ≡ done ++ cons_option option [] → first_bad_line more ≡ None
good_more done more option good one is = ap first_bad_line is ∙ behind_good done (cons_option option []) good ∙ one

utf8-test : (b : Bool) (bytes : List ℕ) → is_utf8 bytes ≡ b → (IsUtf8 bytes → ⊥) → is_utf8 bytes ≡ false
utf8-test true bytes is never = absurd (never (IsUtf8-from_is_utf8 bytes is))
utf8-test false bytes is never = is

pub not_utf8 : (bytes : List ℕ) → (IsUtf8 bytes → ⊥) → is_utf8 bytes ≡ false
not_utf8 bytes never = utf8-test (is_utf8 bytes) bytes refl never

-- one word, and whether it is UTF-8
pub one_good : (number : ℕ) (words : Option Bytes) (word : Bytes) → words ≡ Some word → is_utf8 word ≡ true
    → first_bad_line (cons_option (option_map (λ word. record { number = number; word = word }) words) []) ≡ None
one_good number words word is good = rw is (rw good refl)

pub one_bad : (number : ℕ) (words : Option Bytes) (word : Bytes) → words ≡ Some word → is_utf8 word ≡ false
    → first_bad_line (cons_option (option_map (λ word. record { number = number; word = word }) words) []) ≡ Some number
one_bad number words word is bad = rw is (rw bad refl)
