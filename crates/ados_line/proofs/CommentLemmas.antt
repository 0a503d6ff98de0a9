-- where a comment begins, one item after another
use Rattle.std.proofs.Common.{ℕ, zero, suc, ◌+◌, ◌<◌, ◌≤◌, ◌==◌, ◌≡◌, List, [], ◌∷◌, Option, Some, None, true, false, length, drop, refl, subst, ap, sym, arith}
use Rattle.std.specs.List.{list_any}
use Rattle.std.specs.List.{prefix_len}
use Rattle.std.proofs.lemmas.Bool.{cond_both, eqb-true}
use Rattle.std.proofs.lemmas.List.{drop_all, take_all}
use Rattle.ados_items.specs.Items.{is_blank, closing_place, quoted_item, item_by_first, item_at}
use Rattle.ados_items.specs.declared.items.Item.{Item}
use Rattle.ados_items.specs.declared.items.Item.TheVariants.{Word, Quoted, Equal, End, Unmatched}
use Rattle.ados_items.proofs.ItemLemmas.{IsAtEnd, StandsAfter, item-at-end, item-after}
use Rattle.ados_line.specs.Comment.{comment_after_item, comment_search, comment_start, without_comment, StopsAt, StandUpTo, IsDropped, IsUpToComment}

pub comment_from-item : (n : ℕ) (line : List ℕ) (place : ℕ) (item : Item) → item ≡ item_at true line place
    → comment_search (suc n) line place ≡ comment_after_item (λ to. comment_search n line to) line item
comment_from-item n line place item e = ap (λ it. comment_after_item (λ to. comment_search n line to) line it) (sym e)

-- if no byte is `;`, the line has no comment
after-end : (next : ℕ → ℕ) (line : List ℕ) (item : Item) → IsAtEnd (length line) item → ((to : ℕ) → length line ≤ next to)
    → length line ≤ comment_after_item next line item
after-end next line (Word from to) end goes = goes to
after-end next line (Quoted from to) end goes = goes (to + 1)
after-end next line (Equal at) end goes = goes (at + 1)
after-end next line (End at) end goes = end
after-end next line (Unmatched from) end goes = omega arith

from-end : (n : ℕ) (line : List ℕ) (place : ℕ) → list_any (λ c. c == 59) line ≡ false → length line ≤ comment_search n line place
from-end zero line place none = omega arith
from-end (suc n) line place none =
    after-end (λ to. comment_search n line to) line (item_at true line place) (item-at-end true line place none) (λ to. from-end n line to none)

pub whole : (line : List ℕ) → list_any (λ c. c == 59) line ≡ false → without_comment line ≡ line
whole line none = take_all (comment_start line) line (from-end (length line + 1) line 0 none)

-- if the line's end is an item, only a comment can follow it
abbrev EndDrops : List ℕ → Item → Type 0
EndDrops line (End at) = IsDropped (drop at line)
EndDrops line (Word from to) = Unit {0}
EndDrops line (Quoted from to) = Unit {0}
EndDrops line (Equal at) = Unit {0}
EndDrops line (Unmatched from) = Unit {0}

quote-drops : (line : List ℕ) (from : ℕ) (found : Option ℕ) → EndDrops line (quoted_item from found)
quote-drops line from (Some to) = tt
quote-drops line from None = tt

first-drops : (line : List ℕ) (place : ℕ) (bytes : List ℕ) → drop place line ≡ bytes → EndDrops line (item_by_first true place bytes)
first-drops line place [] e = subst IsDropped (sym e) tt
first-drops line place (c ∷ cs) e =
    let P : Item → Type 0 = λ item. EndDrops line item in
    cond_both (c == 59) _ _ P (λ e59. subst IsDropped (sym e) (eqb-true c 59 e59)) (λ _.
    cond_both (c == 34) _ _ P (λ _. quote-drops line (place + 1) (closing_place (place + 1) false cs)) (λ _.
    cond_both (c == 61) _ _ P (λ _. tt) (λ _. tt)))

end-drops : (line : List ℕ) (place : ℕ) → EndDrops line (item_at true line place)
end-drops line place = let place' = place + prefix_len is_blank (drop place line) in first-drops line place' (drop place' line) refl

-- the items from a place on lead up to another, where a comment begins or the line ends
abbrev StopsFrom : List ℕ → ℕ → ℕ → Type 0
StopsFrom line at place = ((items : List Item) × StandUpTo at line place items) × IsDropped (drop at line)

item-stops : (next : ℕ → ℕ) (line : List ℕ) (place : ℕ) (item : Item) → item_at true line place ≡ item → StandsAfter place (length line) item
    → EndDrops line item → ((to : ℕ) → place < to → to ≤ length line → StopsFrom line (next to) to) → StopsFrom line (comment_after_item next line item) place
item-stops next line place (Word from to) e w d goes =
    let rest = goes to (omega (arith, w.0, w.1)) w.2 in
    ((Word from to ∷ rest.0.0, (to, e, refl, rest.0.1)), rest.1)
item-stops next line place (Quoted from to) e w d goes =
    let rest = goes (to + 1) (omega (arith, w.0, w.1)) (omega (arith, w.2)) in
    ((Quoted from to ∷ rest.0.0, (to + 1, e, refl, rest.0.1)), rest.1)
item-stops next line place (Equal at) e w d goes =
    let rest = goes (at + 1) (omega (arith, w.0)) (omega (arith, w.1)) in
    ((Equal at ∷ rest.0.0, (at + 1, e, refl, rest.0.1)), rest.1)
item-stops next line place (End at) e w d goes = (([], subst (λ it. StopsAt line at it) (sym e) refl), d)
item-stops next line place (Unmatched from) e w d goes =
    (([], subst (λ it. StopsAt line (length line) it) (sym e) refl), subst IsDropped (sym (drop_all (length line) line (omega arith))) tt)

from-stops : (n : ℕ) (line : List ℕ) (place : ℕ) → place ≤ length line → length line < n + place → StopsFrom line (comment_search n line place) place
from-stops zero line place within enough = absurd (omega arith)
from-stops (suc n) line place within enough =
    item-stops (λ to. comment_search n line to) line place (item_at true line place) refl (item-after true line place) (end-drops line place)
    (λ to more end. from-stops n line to end (omega arith))

-- the text kept of a line ends at its comment
pub up-to-comment : (line : List ℕ) → IsUpToComment line (without_comment line)
up-to-comment line =
    let stops = from-stops (length line + 1) line 0 (omega arith) (omega arith) in
    record { place = comment_start line; items = stops.0.0; is_kept = refl; stand = stops.0.1; dropped = stops.1 }
