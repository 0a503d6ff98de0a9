-- Signs in the lines of a script's file, bytes above 127 and a carriage return at the end, and those of which problems speak.
use Rattle.std.specs.Prelude.{ℕ, zero, suc, ◌-◌, ◌≡◌, ◌==◌, ◌&&◌, ◌||◌, Bool, false, List, [], ◌∷◌, Option, Some, None, get_or, length, slice_index, if◌then◌else◌}
use Rattle.std.specs.List.{filter, find, flat_map, slice_split}
use Rattle.std.specs.Option.{option_or}
use Rattle.ados_text.specs.Text.{Bytes, is_past_ascii}
use Rattle.ados_text.specs.Lines.{is_newline}
use Rattle.ados_items.specs.Items.{is_blank}
use Rattle.ados_line.specs.Comment.{without_comment}
use Rattle.ados_check.specs.declared.findings.Finding.{Finding}
use Rattle.ados_check.specs.declared.findings.Problem.{Problem}
use Rattle.ados_check.specs.declared.findings.Problem.TheVariants.{ByteOrderMark, EndReturn, NotAscii, PrintedByte, PrintedReturn}

-- a line is a directive that says nothing: after its dot comes a blank or `\`
abbrev pub is_remark : Bytes → Bool
is_remark (dot ∷ c ∷ cs) = dot == 46 && (is_blank c || c == 92)
is_remark (dot ∷ []) = false
is_remark [] = false

-- a byte is a carriage return
abbrev pub is_return : ℕ → Bool
is_return byte = byte == 13

-- the carriage return at the end of a line, which is `text` without its comment, unless the comment takes it
abbrev pub end_return : Bytes → Bytes → Option ℕ
end_return line text = if is_return (slice_index line (length line - 1)) && length text == length line then Some 13 else None

-- the sign of a line, which is `text` without its comment: the first byte past ASCII of that text, or else the carriage return at the
-- line's end
abbrev pub first_sign : Bytes → Bytes → Option ℕ
first_sign line text = option_or (find is_past_ascii text) (end_return line text)

-- the sign of a line, if it has one; in a script with directives (`dotted`) a directive that says nothing has none
abbrev pub sign_of : Bool → Bytes → Option ℕ
sign_of dotted line = if dotted && is_remark line then None else first_sign line (without_comment line)

-- a file has directives: its first byte is a dot
abbrev pub is_dotted : Bytes → Bool
is_dotted [] = false
is_dotted (c ∷ cs) = c == 46

-- the line of a number, from 0, in a file's bytes; empty past the last
abbrev pub file_line : Bytes → ℕ → Bytes
file_line bytes k = get_or (slice_split is_newline bytes) k []

-- the line of a number, from 1, in a file's bytes; empty past the last
abbrev pub line_at : Bytes → ℕ → Bytes
line_at bytes zero = []
line_at bytes (suc k) = file_line bytes k

-- a byte alone in a list; without a byte (none) the list is empty
abbrev pub listed : Option ℕ → List ℕ
listed None = []
listed (Some byte) = byte ∷ []

-- the sign that is to be found in the line of a number, from 1, alone in a list; the list is empty if there is none
abbrev pub signs_at : Bytes → ℕ → List ℕ
signs_at bytes zero = []
signs_at bytes (suc k) = listed (sign_of (is_dotted bytes) (file_line bytes k))

-- the sign of which a problem speaks; 13 is a carriage return, and 239 the first byte of a byte order mark
abbrev pub told_sign : Problem → Option ℕ
told_sign (NotAscii byte) = Some byte
told_sign (PrintedByte byte) = Some byte
told_sign (EndReturn others) = Some 13
told_sign (PrintedReturn others) = Some 13
told_sign ByteOrderMark = Some 239
told_sign problem = None

-- a finding is of the line of this number
abbrev pub is_at : ℕ → Finding → Bool
is_at number one = one.line == number

-- the signs of which the findings of the line of a number speak
abbrev pub signs_told : ℕ → List Finding → List ℕ
signs_told number found = flat_map (λ one. listed (told_sign one.problem)) (filter (is_at number) found)

-- of each line the new findings speak of the same signs as the old ones
abbrev pub SaysTheSame : List Finding → List Finding → Type 0
SaysTheSame old new = (number : ℕ) → signs_told number new ≡ signs_told number old
