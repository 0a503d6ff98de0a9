-- Scripts in which `_` is written in the place of bytes above 127.
use Rattle.std.specs.Prelude.{ℕ, ◌+◌, ◌≡◌, ◌<◌, ◌==◌, ◌&&◌, ◌||◌, Bool, false, not, List, [], ◌∷◌, Option, Some, None, length, slice_index, if◌then◌else◌}
use Rattle.std.specs.List.{slice_split, starts_with}
use Rattle.ados_text.specs.Lines.{is_newline, lines_of}
use Rattle.ados_text.specs.Text.{Bytes, is_past_ascii}
use Rattle.ados_line.specs.Comment.{without_comment}
use Rattle.ados_check.specs.LeftOut.{is_between}
use Rattle.ados_check.specs.Printing.{only_prints}
use Rattle.ados_check.specs.Renames.{renames_printers}
use Rattle.ados_check.specs.Signs.{is_dotted, is_return, sign_of}

-- a byte, or `_` in the place of one above 127
abbrev pub marked : ℕ → ℕ
marked byte = if is_past_ascii byte then 95 else byte

-- a byte, or `_` in the place of one above 127 if it is to be marked
abbrev pub marked_if : Bool → ℕ → ℕ
marked_if is byte = if is then marked byte else byte

-- the new text is as long as the old one; `_` is written in the place of each byte above 127 of whose place `test` holds, and no other byte
-- is changed
abbrev pub IsMarked : (ℕ → Bool) → Bytes → Bytes → Type 0
IsMarked test old new = (length new ≡ length old) × ((k : ℕ) → k < length old → slice_index new k ≡ marked_if (test k) (slice_index old k))

-- a line, of this number from 0, is the first one and begins with a byte order mark of UTF-8, and this byte is the mark's first
abbrev pub is_order_mark : ℕ → ℕ → Bytes → Bool
is_order_mark number byte line = number == 0 && byte == 239 && starts_with ◌==◌ line (239 ∷ 187 ∷ 191 ∷ [])

-- the sign of a line is a byte above 127 in its words, which it only prints
abbrev pub prints_sign : ℕ → Bytes → Option ℕ → Bool
prints_sign number line None = false
prints_sign number line (Some byte) = only_prints (without_comment line) && not (is_return byte) && not (is_order_mark number byte line)

-- a place lies in a line that only prints its sign, if the first of these lines has this number, from 0, and begins at the place `from`
abbrev pub is_in_printed : Bool → ℕ → ℕ → List Bytes → ℕ → Bool
is_in_printed dotted number from [] k = false
is_in_printed dotted number from (line ∷ lines) k =
    (prints_sign number line (sign_of dotted line) && is_between from (from + length line) k) || is_in_printed dotted (number + 1) (from + length line + 1) lines k

-- a place of a script lies in a line that only prints its sign, and Echo and Ask are no other commands in that script
abbrev pub is_printed_in : Bytes → ℕ → Bool
is_printed_in script k = not (renames_printers [] (lines_of script)) && is_in_printed (is_dotted script) 0 0 (slice_split is_newline script) k
