-- A line of a recording in two parts, and the numbers in it.
use Rattle.std.specs.Prelude.{ℕ, ℤ, pos, suc, Bool, ◌==◌, take, drop, position, Option, Some, None, option_map, if◌then◌else◌}
use Rattle.ados_text.specs.Number.{is_negative, number_of}
use Rattle.ados_text.specs.Text.{Text}

-- a byte is a space
abbrev pub is_space : ℕ → Bool
is_space c = c == 32

-- the bytes of a line before the first space and those after it; None if it has no space
abbrev pub split_at_space : Text → Option (Text × Text)
split_at_space line = option_map (λ end. (take end line, drop (suc end) line)) (position is_space line)

-- the number, if there is one and it is not negative
abbrev pub natural_number : Option ℤ → Option ℕ
natural_number (Some (pos n)) = Some n
natural_number number = None

-- the number that digits without a sign write, if they write one
abbrev pub unsigned_number : Text → Option ℕ
unsigned_number digits = if is_negative digits then None else natural_number (number_of digits)
