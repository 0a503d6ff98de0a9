-- A line character by character, as it is read inside and outside quotes: inside them a star and the byte after it are
-- one character.
use Rattle.std.specs.Prelude.{ℕ, zero, suc, ◌+◌, List, [], ◌∷◌, ◌++◌, map, length, drop, Bool, true, false, ◌==◌, Option, Some, None, if◌then◌else◌}
use Rattle.ados_text.specs.Text.{Text, to_ascii}
use Rattle.ados_items.specs.declared.items.Item.{Item}
use Rattle.ados_items.specs.declared.items.Item.TheVariants.{Word, Quoted, Equal, End, Unmatched}
use Rattle.ados_items.specs.Items.{item_at, bytes_between}
use Rattle.ados_line.specs.declared.letters.Letter.{Letter}
use Rattle.ados_line.specs.declared.letters.Letter.TheVariants.{Plain, Starred}

-- the bytes of a character
abbrev pub letter_bytes : Letter → Text
letter_bytes (Plain c) = c ∷ []
letter_bytes (Starred c) = 42 ∷ c ∷ []

-- a character as text: bytes past ASCII become `?`
abbrev pub letter_text : Letter → Text
letter_text (Plain c) = to_ascii c ∷ []
letter_text (Starred c) = 42 ∷ to_ascii c ∷ []

-- a character as text, without the star before it if its byte is this mark; bytes past ASCII become `?`
abbrev pub starless_text : ℕ → Letter → Text
starless_text mark (Plain c) = to_ascii c ∷ []
starless_text mark (Starred c) = if c == mark then to_ascii c ∷ [] else 42 ∷ to_ascii c ∷ []

-- bytes as characters outside quotes: each byte is one
abbrev pub plain_letters : Text → List Letter
plain_letters bytes = map Plain bytes

-- bytes as characters inside quotes: a star and the byte after it are one; the Bool says that the byte before was such a star
abbrev pub starred_letters : Bool → Text → List Letter
starred_letters false [] = []
starred_letters true [] = Plain 42 ∷ []
starred_letters true (c ∷ cs) = Starred c ∷ starred_letters false cs
starred_letters false (c ∷ cs) = if c == 42 then starred_letters true cs else Plain c ∷ starred_letters false cs

-- the characters of a line from a place on, if this item comes next; `next` gives those from the item's end on
abbrev pub letters_after_item : (ℕ → List Letter) → Text → ℕ → Item → List Letter
letters_after_item next line place (Word from to) = plain_letters (bytes_between line place to) ++ next to
letters_after_item next line place (Quoted from to) =
    plain_letters (bytes_between line place from) ++ (starred_letters false (bytes_between line from to) ++ (plain_letters (bytes_between line to (to + 1)) ++ next (to + 1)))
letters_after_item next line place (Equal at) = plain_letters (bytes_between line place (at + 1)) ++ next (at + 1)
letters_after_item next line place (End at) = plain_letters (drop place line)
letters_after_item next line place (Unmatched from) = plain_letters (bytes_between line place from) ++ starred_letters false (drop from line)

-- the characters of a line from a place on; at most `count` items are read
abbrev pub letters_of_items : ℕ → Text → ℕ → List Letter
letters_of_items zero line place = []
letters_of_items (suc count) line place = letters_after_item (letters_of_items count line) line place (item_at true line place)

-- the characters of a line, which has no more items than bytes
abbrev pub letters_of : Text → List Letter
letters_of line = letters_of_items (length line + 1) line 0

-- the characters of a line from a place on, where an item ends; None: nothing follows the item
abbrev pub following_letters : (ℕ → List Letter) → Option ℕ → List Letter
following_letters next None = []
following_letters next (Some to) = next to
