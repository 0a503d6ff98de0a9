-- A line without its comment, which begins at the first `;` outside quotes.
use Rattle.std.specs.Prelude.{◌≡◌, ℕ, zero, suc, ◌+◌, List, [], ◌∷◌, length, take, drop, true}
use Rattle.ados_text.specs.Text.{Text}
use Rattle.ados_items.specs.declared.items.Item.{Item}
use Rattle.ados_items.specs.declared.items.Item.TheVariants.{Word, Quoted, Equal, End, Unmatched}
use Rattle.ados_items.specs.Items.{item_at}
use Rattle.ados_line.specs.Pieces.{EndsAt}

-- where the comment of a line begins, or else where the line ends, if this item comes next; `next` gives the same from the item's end on
abbrev pub comment_after_item : (ℕ → ℕ) → Text → Item → ℕ
comment_after_item next line (Word from to) = next to
comment_after_item next line (Quoted from to) = next (to + 1)
comment_after_item next line (Equal place) = next (place + 1)
comment_after_item next line (End place) = place
comment_after_item next line (Unmatched from) = length line

-- where the comment of a line begins, or else where the line ends, from a place on; at most `count` items are read
abbrev pub comment_search : ℕ → Text → ℕ → ℕ
comment_search zero line place = length line
comment_search (suc count) line place = comment_after_item (λ to. comment_search count line to) line (item_at true line place)

-- where a line's comment begins, or else where the line ends; a line has no more items than bytes
abbrev pub comment_start : Text → ℕ
comment_start line = comment_search (length line + 1) line 0

-- A line up to its comment: all of it if it has none.
abbrev pub without_comment : Text → Text
without_comment line = take (comment_start line) line

-- the items of a line stop at the place `at`, with this item as the last one read: the comment or the line's end is there, or a quote that
-- is not closed takes the rest of the line
abbrev pub StopsAt : Text → ℕ → Item → Type 0
StopsAt line at (Word from to) = ⊥
StopsAt line at (Quoted from to) = ⊥
StopsAt line at (Equal place) = ⊥
StopsAt line at (End place) = at ≡ place
StopsAt line at (Unmatched from) = at ≡ length line

-- from the second place on, the line has these items one after another, and after the last one its items stop at the first place, `at`
abbrev pub StandUpTo : ℕ → Text → ℕ → List Item → Type 0
StandUpTo at line place [] = StopsAt line at (item_at true line place)
StandUpTo at line place (item ∷ items) = (to : ℕ) × (item_at true line place ≡ item) × EndsAt to item × StandUpTo at line to items

-- a text, the part of a line that is dropped, is empty or begins with `;`
abbrev pub IsDropped : Text → Type 0
IsDropped [] = Unit {0}
IsDropped (c ∷ cs) = c ≡ 59

-- The text kept of a line, items one after another, ends at the first `;` outside quotes, or is the whole line.
pub record IsUpToComment (line kept : Text) : Type 0 where
  pub place : ℕ
  pub items : List Item
  pub is_kept : kept ≡ take place line
  pub stand : StandUpTo place line 0 items
  pub dropped : IsDropped (drop place line)
