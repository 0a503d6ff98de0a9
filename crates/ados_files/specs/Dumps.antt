-- How Type shows bytes: HEX and NUMBER.
use Rattle.std.specs.Prelude.{ℕ, zero, suc, ◌+◌, ◌*◌, ◌/◌, ◌%◌, Bool, true, false, ◌&&◌, nat_lt, nat_le, [], ◌∷◌, ◌++◌, map, take, drop, length, codes, decimal, slice_get, Option, Some, None, if◌then◌else◌}
use Rattle.std.specs.Fmt.{digits}
use Rattle.ados_text.specs.Text.{Bytes}
use Rattle.ados_text.specs.Columns.{right_aligned_text, zero_padded_text}
use Rattle.ados_text.specs.Lines.{is_newline}

-- a number below 16 as a hexadecimal digit, in capitals
abbrev pub hex_digit : ℕ → ℕ
hex_digit number = if nat_lt number 10 then 48 + number else 55 + number

-- a byte as two hexadecimal digits, in capitals
abbrev pub hex_byte : ℕ → Bytes
hex_byte byte = hex_digit (byte / 16) ∷ hex_digit (byte % 16) ∷ []

-- a place in a file, in hexadecimal: of four digits, or of more if it takes more
abbrev pub hex_place : ℕ → Bytes
hex_place place = zero_padded_text 4 (digits 16 true place)

-- a byte as two hexadecimal digits; a missing byte is two blanks
abbrev pub hex_or_blanks : Option ℕ → Bytes
hex_or_blanks None = 32 ∷ 32 ∷ []
hex_or_blanks (Some byte) = hex_byte byte

-- the first four bytes in hexadecimal, with a blank behind them; what is missing is blank
abbrev pub hex_group : Bytes → Bytes
hex_group bytes =
    hex_or_blanks (slice_get bytes 0) ++ (hex_or_blanks (slice_get bytes 1) ++ (hex_or_blanks (slice_get bytes 2) ++ (hex_or_blanks (slice_get bytes 3) ++ 32 ∷ [])))

-- a byte as a character, if it can be printed, and a dot otherwise
abbrev pub character_of : ℕ → ℕ
character_of byte = if nat_le 32 byte && nat_le byte 126 then byte else 46

-- up to 16 bytes in hexadecimal, as four groups
unfoldable pub hex_groups : Bytes → Bytes
hex_groups bytes = hex_group bytes ++ (hex_group (drop 4 bytes) ++ (hex_group (drop 8 bytes) ++ hex_group (drop 12 bytes)))

-- the line of up to 16 bytes at a place in a file: the place, their groups, and the bytes as characters
abbrev pub hex_line : ℕ → Bytes → Bytes
hex_line place bytes = hex_place place ++ (codes ": " ++ (hex_groups bytes ++ (codes "    " ++ (map character_of bytes ++ 10 ∷ []))))

-- so many (`count`) lines of 16 bytes each, from the line with this number, from 0, on
abbrev pub hex_lines : ℕ → ℕ → Bytes → Bytes
hex_lines zero number bytes = []
hex_lines (suc count) number bytes = hex_line (number * 16) (take 16 bytes) ++ hex_lines count (number + 1) (drop 16 bytes)

-- HEX: all bytes of a file in lines of 16 bytes each
abbrev pub hex_text : Bytes → Bytes
hex_text bytes = hex_lines ((length bytes + 15) / 16) 0 bytes

-- what stands before a line if it is shown with its number (`true`): the number, right in so many places, and a blank
abbrev pub line_number : ℕ → Bool → ℕ → Bytes
line_number width true number = right_aligned_text width (decimal number) ++ 32 ∷ []
line_number width false number = []

-- bytes with numbers in 5 places before their lines, if the first byte is in the line with this number; it begins the line if `begins`
abbrev pub numbered_from : Bool → ℕ → Bytes → Bytes
numbered_from begins number [] = []
numbered_from begins number (byte ∷ bytes) =
    line_number 5 begins number ++ (byte ∷ numbered_from (is_newline byte) (if is_newline byte then number + 1 else number) bytes)

-- NUMBER: all lines of bytes, with numbers from 1 on
abbrev pub numbered_text : Bytes → Bytes
numbered_text bytes = numbered_from true 1 bytes
