-- the characters of a line, item by item
use Rattle.std.proofs.Common.{◌≡◌, ◌∙◌, ℕ, zero, suc, ◌+◌, ◌-◌, ◌<◌, ◌≤◌, List, [], ◌∷◌, ◌++◌, Bool, true, false, ◌==◌, Option, Some, None, length, drop, flat_map, if◌then◌else◌, refl, sym, ap, arith, append-nil}
use Rattle.std.specs.List.{prefix_len}
use Rattle.std.proofs.lemmas.Bool.{cond_both, eqb-true}
use Rattle.std.proofs.lemmas.Grind.{flat_map-append}
use Rattle.std.proofs.lemmas.List.{drop-drop, take-append-drop}
use Rattle.ados_items.specs.declared.items.Item.{Item}
use Rattle.ados_items.specs.declared.items.Item.TheVariants.{Word, Quoted, Equal, End, Unmatched}
use Rattle.ados_items.specs.Items.{is_blank, closing_place, quoted_item, item_by_first, item_at, bytes_between}
use Rattle.ados_items.proofs.ItemLemmas.{StandsAfter, item-after}
use Rattle.ados_line.specs.declared.letters.Letter.{Letter}
use Rattle.ados_line.specs.declared.letters.Letter.TheVariants.{Plain}
use Rattle.ados_line.specs.Letters.{letter_bytes, plain_letters, starred_letters, letters_after_item, letters_of_items, letters_of, following_letters}

pub letters-done : (next : ℕ → List Letter) (whole new : List Letter) (to : Option ℕ) → whole ≡ new ++ following_letters next to → to ≡ None → new ≡ whole
letters-done next whole new to h e = sym (h ∙ ap (λ o. new ++ following_letters next o) e ∙ append-nil new)

pub letters-onward : (next : ℕ → List Letter) (whole new : List Letter) (to : Option ℕ) (place : ℕ) → whole ≡ new ++ following_letters next to → to ≡ Some place
    → whole ≡ new ++ next place
letters-onward next whole new to place h e = h ∙ ap (λ o. new ++ following_letters next o) e

-- the place of an open quote
abbrev OpensAfter : ℕ → Item → Type 0
OpensAfter place (Unmatched from) = place ≤ from
OpensAfter place (Word from to) = Unit {0}
OpensAfter place (Quoted from to) = Unit {0}
OpensAfter place (Equal at) = Unit {0}
OpensAfter place (End at) = Unit {0}

quote-opens : (place : ℕ) (found : Option ℕ) → OpensAfter place (quoted_item (place + 1) found)
quote-opens place (Some to) = tt
quote-opens place None = omega arith

first-opens : (place : ℕ) (bytes : List ℕ) → OpensAfter place (item_by_first true place bytes)
first-opens place [] = tt
first-opens place (c ∷ cs) =
    let P : Item → Type 0 = λ item. OpensAfter place item in
    cond_both (c == 59) _ _ P (λ _. tt) (λ _.
    cond_both (c == 34) _ _ P (λ _. quote-opens place (closing_place (place + 1) false cs)) (λ _.
    cond_both (c == 61) _ _ P (λ _. tt) (λ _. tt)))

opens-before : (place following_letters : ℕ) (item : Item) → place ≤ following_letters → OpensAfter following_letters item → OpensAfter place item
opens-before place following_letters (Unmatched from) h w = omega (arith, w)
opens-before place following_letters (Word from to) h w = tt
opens-before place following_letters (Quoted from to) h w = tt
opens-before place following_letters (Equal at) h w = tt
opens-before place following_letters (End at) h w = tt

opens : (line : List ℕ) (place : ℕ) → OpensAfter place (item_at true line place)
opens line place =
    let following_letters = place + prefix_len is_blank (drop place line) in
    opens-before place following_letters _ (omega arith) (first-opens following_letters (drop following_letters line))

-- bytes one by one are written as they are, and so are pairs
written-singly : (bytes : List ℕ) → flat_map letter_bytes (plain_letters bytes) ≡ bytes
written-singly [] = refl
written-singly (c ∷ cs) = ap (λ l. c ∷ l) (written-singly cs)

abbrev with_star : Bool → List ℕ → List ℕ
with_star starred bytes = if starred then 42 ∷ bytes else bytes

written-paired : (starred : Bool) (bytes : List ℕ) → flat_map letter_bytes (starred_letters starred bytes) ≡ with_star starred bytes
written-paired false [] = refl
written-paired true [] = refl
written-paired true (c ∷ cs) = ap (λ l. 42 ∷ c ∷ l) (written-paired false cs)
written-paired false (c ∷ cs) =
    let P : List Letter → Type 0 = λ l. flat_map letter_bytes l ≡ c ∷ cs in
    cond_both (c == 42) (starred_letters true cs) (Plain c ∷ starred_letters false cs) P
    (λ e. written-paired true cs ∙ ap (λ b. b ∷ cs) (sym (eqb-true c 42 e)))
    (λ _. ap (λ l. c ∷ l) (written-paired false cs))

-- a line continues from one place up to another, and then from there
on : (line : List ℕ) (from to : ℕ) → from ≤ to → bytes_between line from to ++ drop to line ≡ drop from line
on line from to h =
    let e : from + (to - from) ≡ to = omega arith in
    ap (λ l. bytes_between line from to ++ l) (sym (drop-drop (to - from) from line ∙ ap (λ k. drop k line) e)) ∙ take-append-drop (to - from) (drop from line)

-- the characters of a piece and of what follows
then-written : (bytes rest : List ℕ) (ls : List Letter) → flat_map letter_bytes ls ≡ rest → flat_map letter_bytes (plain_letters bytes ++ ls) ≡ bytes ++ rest
then-written bytes rest ls h =
    flat_map-append letter_bytes (plain_letters bytes) ls ∙ ap (λ l. l ++ flat_map letter_bytes ls) (written-singly bytes) ∙ ap (λ l. bytes ++ l) h

pairs-written : (bytes rest : List ℕ) (ls : List Letter) → flat_map letter_bytes ls ≡ rest → flat_map letter_bytes (starred_letters false bytes ++ ls) ≡ bytes ++ rest
pairs-written bytes rest ls h =
    flat_map-append letter_bytes (starred_letters false bytes) ls ∙ ap (λ l. l ++ flat_map letter_bytes ls) (written-paired false bytes) ∙ ap (λ l. bytes ++ l) h

-- what is read from a place on is the whole line from there
abbrev Reads : (ℕ → List Letter) → List ℕ → ℕ → Type 0
Reads next line place = (to : ℕ) → place < to → to ≤ length line → flat_map letter_bytes (next to) ≡ drop to line

item-written : (next : ℕ → List Letter) (line : List ℕ) (place : ℕ) (item : Item) → StandsAfter place (length line) item → OpensAfter place item
    → Reads next line place → flat_map letter_bytes (letters_after_item next line place item) ≡ drop place line
item-written next line place (Word from to) w o reads =
    then-written _ _ _ (reads to (omega (arith, w.0, w.1)) w.2) ∙ on line place to (omega (arith, w.0, w.1))
item-written next line place (Quoted from to) w o reads =
    then-written _ _ _ (pairs-written _ _ _ (then-written _ _ _ (reads (to + 1) (omega (arith, w.0, w.1)) (omega (arith, w.2)))
    ∙ on line to (to + 1) (omega arith)) ∙ on line from to w.1)
    ∙ on line place from (omega (arith, w.0))
item-written next line place (Equal at) w o reads =
    then-written _ _ _ (reads (at + 1) (omega (arith, w.0)) (omega (arith, w.1))) ∙ on line place (at + 1) (omega (arith, w.0))
item-written next line place (End at) w o reads = written-singly (drop place line)
item-written next line place (Unmatched from) w o reads =
    then-written _ _ _ (written-paired false (drop from line)) ∙ on line place from o

from-written : (n : ℕ) (line : List ℕ) (place : ℕ) → place ≤ length line → length line < n + place → flat_map letter_bytes (letters_of_items n line place) ≡ drop place line
from-written zero line place within enough = absurd (omega arith)
from-written (suc n) line place within enough =
    item-written (letters_of_items n line) line place (item_at true line place) (item-after true line place) (opens line place)
    (λ to more end. from-written n line to end (omega arith))

-- the characters of a line are the line
pub letters-written : (line : List ℕ) → flat_map letter_bytes (letters_of line) ≡ line
letters-written line = from-written (length line + 1) line 0 (omega arith) (omega arith)
