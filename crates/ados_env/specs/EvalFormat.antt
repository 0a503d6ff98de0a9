-- What Eval prints of a value with LFORMAT.
use Rattle.std.specs.Prelude.{ℕ, ℤ, ◌+◌, ◌-◌, ◌%◌, ◌==◌, nat_lt, true, false, [], ◌∷◌, ◌++◌, take, length, Option, Some, None, if◌then◌else◌}
use Rattle.std.specs.Fmt.{digits, signed_decimal}
use Rattle.std.specs.Int.{w32, cast_unsigned}
use Rattle.ados_text.specs.Text.{Bytes, fold_of}
use Rattle.ados_text.specs.Columns.{zero_padded_text}
use Rattle.ados_env.specs.declared.eval_format.Field.{Field}
use Rattle.ados_env.specs.declared.eval_format.Field.TheVariants.{Hexadecimal, Octal, Decimal, Character, Percent}
use Rattle.ados_env.specs.declared.numerals.Base.TheVariants as base
use Rattle.ados_env.specs.Numerals.{digits_in, number_written}

-- the field that a letter after a `%` stands for, case ignored: x o n c %
abbrev pub field_of : ℕ → Option Field
field_of letter =
    if fold_of letter == 120 then Some Hexadecimal else
    (if fold_of letter == 111 then Some Octal else
    (if fold_of letter == 110 then Some Decimal else
    (if fold_of letter == 99 then Some Character else
    (if fold_of letter == 37 then Some Percent else None))))

-- the digits with which the bytes behind a field's letter give its width: one or two
abbrev pub width_digits : Bytes → Bytes
width_digits rest = take 2 (digits_in base.Decimal rest)

-- a width, or 0 if none is given: as many digits as are needed
abbrev pub number_or_none : Option ℕ → ℕ
number_or_none None = 0
number_or_none (Some n) = n

-- the width that a field has, given the bytes behind its letter
abbrev pub width_in : Bytes → ℕ
width_in rest = number_or_none (number_written base.Decimal (width_digits rest))

-- what LFORMAT prints for a field of a value (or of its 32 bits), given the bytes behind its letter
abbrev pub field_bytes : ℤ → Field → Bytes → Bytes
field_bytes value Hexadecimal rest = zero_padded_text (width_in rest) (digits 16 true (cast_unsigned w32 value))
field_bytes value Octal rest = zero_padded_text (width_in rest) (digits 8 false (cast_unsigned w32 value))
field_bytes value Decimal rest = signed_decimal value
field_bytes value Character rest = cast_unsigned w32 value % 128 ∷ []
field_bytes value Percent rest = 37 ∷ []

-- how many bytes after its letter belong to a field, given them and all that follows
abbrev pub field_len : Field → Bytes → ℕ
field_len Hexadecimal rest = length (width_digits rest)
field_len Octal rest = length (width_digits rest)
field_len Decimal rest = 0
field_len Character rest = 0
field_len Percent rest = 0

-- what LFORMAT prints for a `%`, given the field that follows it and the bytes behind its letter; a `%` before anything else stays
abbrev pub field_or_percent : ℤ → Option Field → Bytes → Bytes
field_or_percent value None rest = 37 ∷ []
field_or_percent value (Some field) rest = field_bytes value field rest

-- what LFORMAT prints for a `%`, given the value and the bytes behind the `%`
unfoldable pub piece_bytes : ℤ → Bytes → Bytes
piece_bytes value [] = 37 ∷ []
piece_bytes value (letter ∷ rest) = field_or_percent value (field_of letter) rest

-- how many bytes after a `%` belong to it, given the field that follows it (none: 0) and the bytes behind its letter
abbrev pub len_with_letter : Option Field → Bytes → ℕ
len_with_letter None rest = 0
len_with_letter (Some field) rest = 1 + field_len field rest

-- how many of the bytes behind a `%` belong to it
unfoldable pub piece_len : Bytes → ℕ
piece_len [] = 0
piece_len (letter ∷ rest) = len_with_letter (field_of letter) rest

-- what a value is printed as by a format, of which the first `taken` bytes belong to the field before and are left out
abbrev pub formatted_from : ℤ → ℕ → Bytes → Bytes
formatted_from value taken [] = []
formatted_from value taken (byte ∷ rest) =
    if nat_lt 0 taken then formatted_from value (taken - 1) rest else
    (if byte == 37 then piece_bytes value rest ++ formatted_from value (piece_len rest) rest else
    byte ∷ formatted_from value 0 rest)

-- what a value is printed as by a format
abbrev pub formatted_value : ℤ → Bytes → Bytes
formatted_value value format = formatted_from value 0 format
