-- The `+` at the end of a text, by the byte at its end.
use Rattle.std.proofs.Common.{◌≡◌, ◌<◌, ◌∙◌, refl, ap, sym, arith, append_assoc, length-append, ℕ, zero, suc, ◌+◌, ◌-◌, length, map, List, [], ◌∷◌, ◌++◌, Bool, true, false, Option, Some, None}
use Rattle.std.specs.Prelude.{◌==◌, ◌&&◌, if◌then◌else◌}
use Rattle.std.specs.List.{list_all}
use Rattle.std.specs.Option.{option_map}
use Rattle.std.proofs.lemmas.Bool.{and_right}
use Rattle.std.proofs.lemmas.Bool.Decides.{nat_tests}
use Rattle.ados_text.specs.Text.{IsText, Text, to_ascii}
use Rattle.ados_items.specs.Items.{is_blank}
use Rattle.ados_flow.specs.Gathering.{Gathered, single_gathered, before_plus, run_gathering, has_plus, prepended_gathered, without_plus}

-- what a byte makes of the text after it: whether that is blank, and what is before its `+`
abbrev by_first : ℕ → Bool → Option Text → Option Text
by_first c blank after = if (c == 43) && blank then Some [] else option_map (λ front. c ∷ front) after

first : (c : ℕ) (cs : Text) → before_plus (c ∷ cs) ≡ by_first c (list_all is_blank cs) (before_plus cs)
unfolding before_plus
first c cs = refl

none : before_plus [] ≡ None
unfolding before_plus
none = refl

-- without a byte there is no `+`
pub none_in_none : (text : Text) → length text ≡ 0 → before_plus text ≡ None
none_in_none [] e = none
none_in_none (c ∷ cs) e = cc

blanks-stay : (xs : Text) (c : ℕ) → is_blank c ≡ true → list_all is_blank (xs ++ c ∷ []) ≡ list_all is_blank xs
blanks-stay [] c e = ap (λ b. b && true) e
blanks-stay (x ∷ xs) c e = ap (λ b. is_blank x && b) (blanks-stay xs c e)

blanks-end : (xs : Text) (c : ℕ) → is_blank c ≡ false → list_all is_blank (xs ++ c ∷ []) ≡ false
blanks-end [] c e = ap (λ b. b && true) e
blanks-end (x ∷ xs) c e = ap (λ b. is_blank x && b) (blanks-end xs c e) ∙ and_right (is_blank x) false refl

no-plus : (c : ℕ) → is_blank c ≡ true → c == 43 ≡ false
no-plus c e = grind (arith, nat_tests)

-- a byte alone that is not a `+`
alone-without : (c : ℕ) → c == 43 ≡ false → before_plus (c ∷ []) ≡ None
alone-without c n =
    first c []
    ∙ ap (λ b. if b && true then Some [] else option_map (λ front. c ∷ front) (before_plus [])) n
    ∙ ap (option_map (λ front. c ∷ front)) none

-- what is not blank has no `+` before it
kept-on : (c : ℕ) (after : Option Text) → by_first c false after ≡ option_map (λ front. c ∷ front) after
kept-on c after = ap (λ b. if b then Some [] else option_map (λ front. c ∷ front) after) (and_right (c == 43) false refl)

-- a blank at the end changes nothing
pub blank_after : (xs : Text) (c : ℕ) → is_blank c ≡ true → before_plus (xs ++ c ∷ []) ≡ before_plus xs
blank_after [] c e = alone-without c (no-plus c e) ∙ sym none
blank_after (x ∷ xs) c e =
    first x (xs ++ c ∷ [])
    ∙ ap (λ b. by_first x b (before_plus (xs ++ c ∷ []))) (blanks-stay xs c e)
    ∙ ap (by_first x (list_all is_blank xs)) (blank_after xs c e)
    ∙ sym (first x xs)

-- a `+` at the end is the one
pub plus_after : (xs : Text) → before_plus (xs ++ 43 ∷ []) ≡ Some xs
plus_after [] = first 43 []
plus_after (x ∷ xs) =
    first x (xs ++ 43 ∷ [])
    ∙ ap (λ b. by_first x b (before_plus (xs ++ 43 ∷ []))) (blanks-end xs 43 refl)
    ∙ ap (by_first x false) (plus_after xs)
    ∙ kept-on x (Some xs)

-- with any other byte at the end there is none
pub other_after : (xs : Text) (c : ℕ) → is_blank c ≡ false → c == 43 ≡ false → before_plus (xs ++ c ∷ []) ≡ None
other_after [] c e n = alone-without c n
other_after (x ∷ xs) c e n =
    first x (xs ++ c ∷ [])
    ∙ ap (λ b. by_first x b (before_plus (xs ++ c ∷ []))) (blanks-end xs c e)
    ∙ ap (by_first x false) (other_after xs c e n)
    ∙ kept-on x None

-- a text of ASCII has such a text before its `+`
first-stays : (c : ℕ) (after : Option Text) → to_ascii c ≡ c → option_map (map to_ascii) after ≡ after
    → option_map (map to_ascii) (option_map (λ front. c ∷ front) after) ≡ option_map (λ front. c ∷ front) after
first-stays c None e es = refl
first-stays c (Some front) e es = cc

chosen-stays : (b : Bool) (after : Option Text) → option_map (map to_ascii) after ≡ after
    → option_map (map to_ascii) (if b then Some [] else after) ≡ (if b then Some [] else after)
chosen-stays true after e = refl
chosen-stays false after e = e

byte-stays : (c : ℕ) → c < 128 → to_ascii c ≡ c
byte-stays c h = grind (arith, nat_tests)

stays : (text : Text) → IsText text → option_map (map to_ascii) (before_plus text) ≡ before_plus text
stays [] h = ap (option_map (map to_ascii)) none ∙ sym none
stays (c ∷ cs) h =
    ap (option_map (map to_ascii)) (first c cs)
    ∙ chosen-stays ((c == 43) && list_all is_blank cs) (option_map (λ front. c ∷ front) (before_plus cs))
    (first-stays c (before_plus cs) (byte-stays c (h 0 0 (omega arith))) (stays cs (λ k d l. h (suc k) d (omega (arith, l)))))
    ∙ sym (first c cs)

pub front_stays : (text front : Text) → IsText text → before_plus text ≡ Some front → map to_ascii front ≡ front
front_stays text front h e =
    let s = stays text h in cc

-- what was gathered before this
abbrev pub led : List Text → Gathered → Gathered
led commands rest = record { commands = commands ++ rest.commands; taken = length commands + rest.taken }

-- the last of what was gathered, before the rest
led-leading : (commands : List Text) (last : Text) (rest : Gathered) → led (commands ++ without_plus last ∷ []) rest ≡ led commands (prepended_gathered last rest)
led-leading commands last rest =
    let count : length (commands ++ without_plus last ∷ []) ≡ length commands + 1 = length-append commands (without_plus last ∷ []) in
    let total : length (commands ++ without_plus last ∷ []) + rest.taken ≡ length commands + suc rest.taken = omega (arith, count) in
    ap (λ n. record { commands = (commands ++ without_plus last ∷ []) ++ rest.commands; taken = n }) total
    ∙ ap (λ cs. record { commands = cs; taken = length commands + suc rest.taken }) (append_assoc commands (without_plus last ∷ []) rest.commands)

-- a text that continues, with a line after it, while there is room
pub went_on : (commands : List Text) (last line : Text) (rest : List Text) → length commands < 31 → has_plus last ≡ true
    → led (commands ++ without_plus last ∷ []) (run_gathering (31 - length (commands ++ without_plus last ∷ [])) line rest)
    ≡ led commands (run_gathering (31 - length commands) last (line ∷ rest))
went_on commands last line rest room goes =
    let now = length commands in
    let count : length (commands ++ without_plus last ∷ []) ≡ now + 1 = length-append commands (without_plus last ∷ []) in
    let less : 31 - now ≡ suc (31 - (now + 1)) = omega (arith, room) in
    ap (λ n. led (commands ++ without_plus last ∷ []) (run_gathering (31 - n) line rest)) count
    ∙ led-leading commands last (run_gathering (31 - (now + 1)) line rest)
    ∙ ap (λ b. led commands (if b then prepended_gathered last (run_gathering (31 - (now + 1)) line rest) else single_gathered last)) (sym goes)
    ∙ ap (λ n. led commands (run_gathering n last (line ∷ rest))) (sym less)

-- a text that takes no line
pub took_none : (commands : List Text) (last : Text) (rest : List Text) → has_plus last ≡ false → run_gathering (31 - length commands) last rest ≡ single_gathered last
took_none commands last rest stops = by_room (31 - length commands) rest
  where
    by_room : (room : ℕ) (rest : List Text) → run_gathering room last rest ≡ single_gathered last
    by_room zero rest = refl
    by_room (suc room) [] = refl
    by_room (suc room) (line ∷ rest) = ap (λ b. if b then prepended_gathered last (run_gathering room line rest) else single_gathered last) stops

pub none_left : (room : ℕ) (last : Text) (rest : List Text) → length rest ≡ 0 → run_gathering room last rest ≡ single_gathered last
none_left zero last rest e = refl
none_left (suc room) last [] e = refl
none_left (suc room) last (line ∷ rest) e = cc
