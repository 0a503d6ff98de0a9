-- The sign of a redirection: `<`, `>` or `>>` at a word's start.
use Rattle.std.specs.Prelude.{ℕ, ◌+◌, ◌-◌, Bool, not, ◌==◌, ◌&&◌, ◌||◌, nat_lt, Option, Some, None, slice_index, if◌then◌else◌}
use Rattle.ados_text.specs.Text.{Text}
use Rattle.ados_line.specs.declared.signs.Sign.{Sign}
use Rattle.ados_line.specs.declared.signs.Sign.TheVariants.{Input, Output, Append}

-- the line has this byte at a place at the start of a word: a byte after `=` continues a word
abbrev pub begins : Text → ℕ → ℕ → Bool
begins line byte place = (slice_index line place == byte) && not (nat_lt 0 place && (slice_index line (place - 1) == 61))

-- the line has `<>`, which is neither an input nor an output, at a place at a word's start
abbrev pub is_both : Text → ℕ → Bool
is_both line place = begins line 60 place && (slice_index line (place + 1) == 62)

-- the sign at a place of the line, if there is one at a word's start; `>>` is one sign
abbrev pub sign_at : Text → ℕ → Option Sign
sign_at line place =
    if begins line 60 place then Some Input else
    (if begins line 62 place then (if slice_index line (place + 1) == 62 then Some Append else Some Output) else None)

-- how many bytes a sign has
abbrev pub width_of : Sign → ℕ
width_of Input = 1
width_of Output = 1
width_of Append = 2

-- a byte is a quote, or one of a sign
abbrev pub is_mark : ℕ → Bool
is_mark c = c == 34 || (c == 60 || c == 62)

-- a byte makes a line more than a command and its arguments: the `$` of a variable, a back-tick, a quote, or a byte of a sign
abbrev pub is_special : ℕ → Bool
is_special c = (c == 36 || c == 96) || is_mark c
