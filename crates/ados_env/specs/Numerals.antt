-- The numbers that runs of digits write.
use Rattle.std.specs.Prelude.{ℕ, ◌+◌, ◌-◌, ◌*◌, ◌^◌, nat_le, nat_lt, ◌&&◌, Bool, [], ◌∷◌, take, Option, Some, None, if◌then◌else◌}
use Rattle.std.specs.List.{prefix_len}
use Rattle.std.specs.Char.{is_ascii_digit, is_ascii_hexdigit}
use Rattle.std.specs.Option.{option_and_then}
use Rattle.ados_text.specs.Text.{Bytes, fold_of}
use Rattle.ados_env.specs.declared.numerals.Base.{Base}
use Rattle.ados_env.specs.declared.numerals.Base.TheVariants.{Octal, Decimal, Hexadecimal}

-- a byte is a digit of a base
abbrev pub is_digit_in : Base → ℕ → Bool
is_digit_in Octal byte = nat_le 48 byte && nat_le byte 55
is_digit_in Decimal byte = is_ascii_digit byte
is_digit_in Hexadecimal byte = is_ascii_hexdigit byte

-- the digits of a base with which bytes begin: the longest run of them
abbrev pub digits_in : Base → Bytes → Bytes
digits_in base bytes = take (prefix_len (is_digit_in base) bytes) bytes

-- what a digit is worth; a letter in either case is a hexadecimal digit
abbrev pub digit_value : ℕ → ℕ
digit_value digit = if nat_lt digit 58 then digit - 48 else fold_of digit - 87

-- the number that a value and one more digit of a base write
abbrev pub based_sum : Base → ℕ → ℕ → ℕ
based_sum Octal value digit = value * 8 + digit
based_sum Decimal value digit = value * 10 + digit
based_sum Hexadecimal value digit = value * 16 + digit

-- a number, if it has at most 32 bits
abbrev pub bits_checked : ℕ → Option ℕ
bits_checked n = if nat_lt n (2 ^ 32) then Some n else None

-- the number that digits write after those that write a value; none if it has more than 32 bits
abbrev pub digits_value : Base → ℕ → Bytes → Option ℕ
digits_value base value [] = Some value
digits_value base value (digit ∷ digits) = option_and_then (λ v. digits_value base v digits) (bits_checked (based_sum base value (digit_value digit)))

-- the number that digits write: there is one digit at least, and the number has at most 32 bits
abbrev pub number_written : Base → Bytes → Option ℕ
number_written base [] = None
number_written base (digit ∷ digits) = digits_value base 0 (digit ∷ digits)
