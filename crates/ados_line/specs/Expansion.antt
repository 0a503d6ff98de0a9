-- What a raw line that may hold aliases, variables and back-ticks is read as: its comment is dropped, then its alias is
-- expanded, then its variables, and the resulting text is a command substitution at its first pair of back-ticks, or
-- else is cut. After a command substitution its output replaces the pair, and the next pair is looked for after it.
use Rattle.std.specs.Prelude.{◌≤◌, ℕ, ◌-◌, List, [], ◌++◌, length, take, map, slice_index, ◌==◌, nat_lt, Result, Ok, Err, if◌then◌else◌}
use Rattle.ados_text.specs.Text.{Bytes, Text, to_ascii}
use Rattle.ados_vars.specs.Vars.{Pairs}
use Rattle.ados_line.specs.declared.faults.LineFault.{LineFault}
use Rattle.ados_line.specs.declared.faults.LineFault.TheVariants.{LineTooLong}
use Rattle.ados_line.specs.declared.letters.Letter.{Letter}
use Rattle.ados_line.specs.declared.lines.Expanded.{Expanded}
use Rattle.ados_line.specs.declared.lines.Expanded.TheVariants.{Nothing, Ready, Tick}
use Rattle.ados_line.specs.declared.ticks.Parted.{Parted}
use Rattle.ados_line.specs.declared.ticks.Parted.TheVariants.{Whole, Ticked}
use Rattle.ados_line.specs.Alias.{with_alias}
use Rattle.ados_line.specs.Answers.{within_line_limit}
use Rattle.ados_line.specs.Comment.{without_comment}
use Rattle.ados_line.specs.Cut.{cut_of, expanded_of_cut, line_limit}
use Rattle.ados_line.specs.Letters.{letters_of}
use Rattle.ados_line.specs.Pieces.{IsOfPieces}
use Rattle.ados_line.specs.Ticks.{text_of, tickless_text, split_after_bytes, HasNoTick, IsTick, IsSeam}
use Rattle.ados_line.specs.Values.{Variables, values, IsInSegments}

-- a line with its variables expanded; the result too is refused if it has more than `line_limit` bytes
abbrev pub with_values : Variables → Text → Result Text LineFault
with_values variables line = within_line_limit (values variables 0 (letters_of line))

-- what a line that was split at its back-ticks is read as: a command substitution, or, if it has no pair of back-ticks, its cut
abbrev pub then_cut : Result Parted LineFault → Result Expanded LineFault
then_cut (Ok (Whole text)) = expanded_of_cut (cut_of text)
then_cut (Ok (Ticked tick)) = Ok (Tick tick)
then_cut (Err fault) = Err fault

-- what a text is read as, by its back-ticks and its cut; its first `size` bytes are kept as they are
abbrev pub read_rest_of_text : ℕ → Text → Result Expanded LineFault
read_rest_of_text size text = then_cut (split_after_bytes size text)

-- what a text whose variables are expanded is read as, if expanding them had no fault
abbrev pub then_read : Result Text LineFault → Result Expanded LineFault
then_read (Ok text) = read_rest_of_text 0 text
then_read (Err fault) = Err fault

-- what a line is read as whose comment is dropped and whose alias is expanded
abbrev pub expanded_line : Variables → Text → Result Expanded LineFault
expanded_line variables line = then_read (with_values variables line)

-- what a raw line is read as, by the aliases and the values of variables
unfoldable pub expand_raw_line : Pairs → Variables → Text → Result Expanded LineFault
expand_raw_line aliases variables raw =
    if nat_lt line_limit (length raw) then Err LineTooLong else expanded_line variables (with_alias aliases (without_comment raw))

-- bytes without the newline at their end, if one is there
abbrev pub without_newline : Bytes → Bytes
without_newline bytes = if slice_index bytes (length bytes - 1) == 10 then take (length bytes - 1) bytes else bytes

-- a byte of a command's output as a byte of a line: a newline becomes a space, and a byte past ASCII `?`
abbrev pub newline_to_space : ℕ → ℕ
newline_to_space c = if c == 10 then 32 else to_ascii c

-- the output of a command substitution, as text: one newline at its end is dropped, and each other one becomes a space
abbrev pub tick_text : Bytes → Text
tick_text output = map newline_to_space (without_newline output)

-- what a line is read as after its command substitution: `kept` is the text up to the end of the output, which is kept as it is, and
-- `after` is the text after it, which is read
abbrev pub read_resumed_text : Text → Text → Result Expanded LineFault
read_resumed_text kept after = if nat_lt line_limit (length (kept ++ after)) then Err LineTooLong else read_rest_of_text (length kept) (kept ++ after)

-- what a line is read as after its command substitution, by the text before the back-ticks, the command's output, and the text after them
unfoldable pub resume_line : Text → Bytes → Text → Result Expanded LineFault
resume_line before output after = read_resumed_text (before ++ tick_text output) after

-- What characters are read as after a text that is kept as it is: the command substitution of their first pair of back-ticks, or, if there
-- is no back-tick without a star before it, the pieces of the text without the stars before back-ticks.
abbrev pub IsRead : Text → List Letter → Expanded → Type 0
IsRead kept letters Nothing = HasNoTick letters × IsOfPieces (kept ++ tickless_text letters) Nothing
IsRead kept letters (Ready line) = HasNoTick letters × IsOfPieces (kept ++ tickless_text letters) (Ready line)
IsRead kept letters (Tick tick) = IsTick kept letters tick

-- What a line is read as is a command substitution, or pieces of a text, and that text is the line with its variables expanded.
abbrev pub IsMade : Variables → Text → Expanded → Type 0
IsMade variables line found = (text : Text) × IsInSegments variables line text × (length text ≤ line_limit) × IsRead [] (letters_of text) found

-- What a line is read as after its command substitution, whose back-ticks stood between `before` and `after`, is a command substitution or
-- pieces of the text with the output in place; the characters after the output are read, those up to its end are kept.
abbrev pub IsResumed : Text → Bytes → Text → Expanded → Type 0
IsResumed before output after found =
    let kept = before ++ tick_text output in
    (read : List Letter) × (rest : List Letter) × IsSeam kept (kept ++ after) read rest
    × (length (kept ++ after) ≤ line_limit) × IsRead (text_of read) rest found
