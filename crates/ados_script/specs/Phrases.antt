-- The phrase of a Lab line: the words behind its first one, with one blank between two. An open quote ends them.
use Rattle.std.specs.Prelude.{ℕ, zero, suc, ◌+◌, [], ◌∷◌, ◌++◌, Bool, true, false, ◌==◌, ◌&&◌, Option, Some, None, length, drop, if◌then◌else◌}
use Rattle.ados_text.specs.Text.{Text}
use Rattle.ados_items.specs.declared.items.Item.{Item}
use Rattle.ados_items.specs.declared.items.Item.TheVariants.{Word, Quoted, Equal, End, Unmatched}
use Rattle.ados_items.specs.Items.{item_at, value_of}
use Rattle.ados_script.specs.declared.phrases.Piece.{Piece}

-- where an item stands in its line, if it is a word, a quoted text or an equal sign; none at the end of the line, and for an open quote
abbrev pub piece_of : Item → Option Piece
piece_of (Word from to) = Some (record { from = from; to = to; runs = true })
piece_of (Equal place) = Some (record { from = place; to = place + 1; runs = true })
piece_of (Quoted from to) = Some (record { from = from; to = to + 1; runs = false })
piece_of (End place) = None
piece_of (Unmatched from) = None

-- The blank before a piece of a phrase. Words and equal signs that touch are one word: `runs` says that the piece before, which ends at
-- `place`, is such a one.
abbrev pub blank_before : Bool → ℕ → Piece → Text
blank_before runs place piece = if runs && (piece.from == place) then [] else 32 ∷ []

-- the words of a line from an item on, each after a blank, given the item's piece (none: no words); `next` gives the words from a place on,
-- and its Bool says that an unquoted piece ends there, as `runs` says of `place`
abbrev pub spaced_by_piece : (Bool → ℕ → Text) → Bool → ℕ → Text → Item → Option Piece → Text
spaced_by_piece next runs place line item None = []
spaced_by_piece next runs place line item (Some piece) = (blank_before runs place piece ++ value_of line item) ++ next piece.runs piece.to

-- the words of a line from `place` on, each after a blank, in at most so many pieces; `runs` says that an unquoted piece ends at `place`
abbrev pub spaced_from : ℕ → Text → Bool → ℕ → Text
spaced_from zero line runs place = []
spaced_from (suc count) line runs place =
    let item = item_at true line place in
    spaced_by_piece (λ runs to. spaced_from count line runs to) runs place line item (piece_of item)

-- the words behind the first one of a line, given its first item; empty if that is not a word. A line has no more pieces than bytes.
abbrev pub phrase_behind : Text → Item → Text
phrase_behind line (Word from to) = drop 1 (spaced_from (length line + 1) line false to)
phrase_behind line _ = []

-- the phrase of a Lab line: the words behind its first one, with one blank between two
abbrev pub phrase_of : Text → Text
phrase_of line = phrase_behind line (item_at true line 0)
