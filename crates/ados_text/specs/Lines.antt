-- Lines of bytes: a byte 10 ends each, and a non-ASCII byte is read as `?`.
use Rattle.std.specs.Prelude.{ℕ, List, [], ◌∷◌, map, take, position, Bool, ◌==◌, Option, Some, None, if◌then◌else◌}
use Rattle.ados_text.specs.Text.{Bytes, Text, to_ascii}

abbrev pub is_newline : ℕ → Bool
is_newline byte = byte == 10

-- a byte put before the first of these lines, or a line of its own if there is none
abbrev pub lines_with_byte : ℕ → List Text → List Text
lines_with_byte byte [] = (byte ∷ []) ∷ []
lines_with_byte byte (line ∷ lines) = (byte ∷ line) ∷ lines

-- the lines of a file's bytes: each ends at a byte 10, which the last one may lack
abbrev pub lines_of : Bytes → List Text
lines_of [] = []
lines_of (byte ∷ bytes) = if is_newline byte then [] ∷ lines_of bytes else lines_with_byte (to_ascii byte) (lines_of bytes)

-- the bytes up to a place, or all of them
abbrev pub leading_bytes : Option ℕ → Bytes → Bytes
leading_bytes None bytes = bytes
leading_bytes (Some place) bytes = take place bytes

-- the first line of a file's bytes; empty if there are no bytes
abbrev pub first_line : Bytes → Text
first_line bytes = map to_ascii (leading_bytes (position is_newline bytes) bytes)
