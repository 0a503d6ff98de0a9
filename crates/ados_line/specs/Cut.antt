-- The cut of a line: its command, its arguments, and the redirections of its input and its output. The pieces that are
-- not redirections stay, unchanged, in the arguments. After Run only the redirections that directly follow it are read,
-- and the rest of the line is its arguments, whatever it holds.
use Rattle.std.specs.Prelude.{ℕ, zero, suc, ◌+◌, [], ◌∷◌, ◌++◌, Bool, true, false, Option, Some, None, is_some, Result, Ok, Err, length, drop, codes, if◌then◌else◌}
use Rattle.ados_text.specs.Text.{Text, is_same}
use Rattle.ados_items.specs.declared.items.Item.{Item}
use Rattle.ados_items.specs.declared.items.Item.TheVariants.{Word, Quoted, Equal, End, Unmatched}
use Rattle.ados_items.specs.Items.{item_at, value_of, bytes_between}
use Rattle.ados_line.specs.declared.faults.LineFault.{LineFault}
use Rattle.ados_line.specs.declared.faults.LineFault.TheVariants.{ArgumentMissing, TooManyArguments, UnmatchedQuotes, NotImplemented}
use Rattle.ados_line.specs.declared.signs.Sign.{Sign}
use Rattle.ados_line.specs.declared.signs.Sign.TheVariants.{Input, Output, Append}
use Rattle.ados_line.specs.declared.cuts.Cut.{Cut}
use Rattle.ados_line.specs.declared.lines.Expanded.{Expanded}
use Rattle.ados_line.specs.declared.lines.Expanded.TheVariants.{Nothing, Ready}
use Rattle.ados_line.specs.Signs.{is_both, sign_at, width_of}

-- how the cut of a line continues from a place, after what has been read
abbrev pub CutContinuation : Type 0
CutContinuation = ℕ → Cut → Result Cut LineFault

-- what has been read, with one more item: without a command the item's value is the command, and with one the item as it is written,
-- `piece`, is appended to the arguments
abbrev pub with_piece : Option Text → Text → Text → Cut → Cut
with_piece None value piece read = record read { command = Some value }
with_piece (Some command) value piece read = record read { args = read.args ++ piece }

-- what has been read, with the blanks of a line: those before the command are dropped, and those after it are appended to the arguments
abbrev pub with_blanks : Option Text → Text → Cut → Cut
with_blanks None blanks read = read
with_blanks (Some command) blanks read = record read { args = read.args ++ blanks }

-- what has been read, with the name of a redirection, which has this sign
abbrev pub with_name : Sign → Text → Cut → Cut
with_name Input name read = record read { input = Some name }
with_name Output name read = record read { output = Some (record { name = name; append = false }) }
with_name Append name read = record read { output = Some (record { name = name; append = true }) }

-- a redirection with this sign, whose name is this item, the one after the sign: a quoted item, or a run up to a blank or `;`; `next`
-- continues the cut
abbrev pub read_name : CutContinuation → Text → Sign → Cut → Item → Result Cut LineFault
read_name next line sign read (Word from to) = next to (with_name sign (value_of line (Word from to)) read)
read_name next line sign read (Quoted from to) = next (to + 1) (with_name sign (value_of line (Quoted from to)) read)
read_name next line sign read (Unmatched from) = Err UnmatchedQuotes
read_name next line sign read _ = Err ArgumentMissing

-- a redirection of this sign's direction has been read already: a line takes one input and one output
abbrev pub is_taken : Sign → Cut → Bool
is_taken Input read = is_some read.input
is_taken Output read = is_some read.output
is_taken Append read = is_some read.output

-- the redirection whose sign is at a place; the blanks before it have been read, and `next` continues the cut
abbrev pub read_redirection : CutContinuation → Text → ℕ → Cut → Sign → Result Cut LineFault
read_redirection next line place read sign =
    if is_taken sign read then Err TooManyArguments else read_name next line sign read (item_at false line (place + width_of sign))

-- the word at `from` .. `to`, which begins with this sign, or with none: a redirection, or a piece of the line; the line has been read up
-- to `place`
abbrev pub by_sign : CutContinuation → Text → ℕ → Cut → ℕ → ℕ → Option Sign → Result Cut LineFault
by_sign next line place read from to (Some sign) = read_redirection next line from (with_blanks read.command (bytes_between line place from) read) sign
by_sign next line place read from to None = next to (with_piece read.command (value_of line (Word from to)) (bytes_between line place to) read)

-- the word at `from` .. `to`, if the line has been read up to `place`: `<>` is refused, and any other sign at its start makes it a
-- redirection
abbrev pub cut_word : CutContinuation → Text → ℕ → Cut → ℕ → ℕ → Result Cut LineFault
cut_word next line place read from to =
    if is_both line from then Err NotImplemented else by_sign next line place read from to (sign_at line from)

-- an item of a line that is not one of Run, if the line has been read up to `place`; `next` continues the cut after it
abbrev pub cut_item : CutContinuation → Text → ℕ → Cut → Item → Result Cut LineFault
cut_item next line place read (Word from to) = cut_word next line place read from to
cut_item next line place read (Quoted from to) =
    next (to + 1) (with_piece read.command (value_of line (Quoted from to)) (bytes_between line place (to + 1)) read)
cut_item next line place read (Equal at) =
    next (at + 1) (with_piece read.command (61 ∷ []) (bytes_between line place (at + 1)) read)
cut_item next line place read (End at) = Ok (with_blanks read.command (drop place line) read)
cut_item next line place read (Unmatched from) = Err UnmatchedQuotes

-- the command, if there is one, is Run, case ignored
abbrev pub is_run : Option Text → Bool
is_run None = false
is_run (Some command) = is_same command (codes "Run")

-- what has been read, with the rest of the line, unchanged, appended to the arguments
abbrev pub with_rest : Text → Cut → Cut
with_rest rest read = record read { args = read.args ++ rest }

-- a word after Run, which begins with this sign, or with none: a redirection, or the rest of the line begins at the blanks before it, at
-- `place`
abbrev pub run_word : CutContinuation → Text → ℕ → Cut → ℕ → Option Sign → Result Cut LineFault
run_word next line place read from (Some sign) = read_redirection next line from read sign
run_word next line place read from None = Ok (with_rest (drop place line) read)

-- an item after Run, if the line has been read up to `place`: only a word may begin with a sign, and any other item begins the rest of the
-- line
abbrev pub run_item : CutContinuation → Text → ℕ → Cut → Item → Result Cut LineFault
run_item next line place read (Word from to) =
    if is_both line from then Err NotImplemented else run_word next line place read from (sign_at line from)
run_item next line place read _ = Ok (with_rest (drop place line) read)

-- an item of the line, if the line has been read up to `place`, by the command that has been read, if there is one: after Run other rules
-- hold
abbrev pub cut_item_by_command : CutContinuation → Text → ℕ → Cut → Item → Result Cut LineFault
cut_item_by_command next line place read item =
    if is_run read.command then run_item next line place read item else cut_item next line place read item

-- the cut of the line's items from a place on, after what has been read; at most `count` items are read
abbrev pub cut_later_items : ℕ → Text → ℕ → Cut → Result Cut LineFault
cut_later_items zero line place read = Ok read
cut_later_items (suc count) line place read = cut_item_by_command (cut_later_items count line) line place read (item_at true line place)

-- what has been read at the start of a line: no command, no arguments, no redirections
abbrev pub nothing_read : Cut
nothing_read = record { command = None; args = []; input = None; output = None }

-- The cut of a line, or the first fault in it. A line has no more items than bytes.
abbrev pub cut_of : Text → Result Cut LineFault
cut_of line = cut_later_items (length line + 1) line 0 nothing_read

-- what a cut is as a line, by its command: a line without a command asks for nothing
abbrev pub line_or_nothing : Option Text → Cut → Expanded
line_or_nothing None read = Nothing
line_or_nothing (Some command) read = Ready (record { command = command; args = read.args; input = read.input; output = read.output })

-- what a line is read as, by its cut or the fault of its cut
abbrev pub expanded_of_cut : Result Cut LineFault → Result Expanded LineFault
expanded_of_cut (Ok read) = Ok (line_or_nothing read.command read)
expanded_of_cut (Err fault) = Err fault

-- the greatest number of bytes of a line
abbrev pub line_limit : ℕ
line_limit = 512
