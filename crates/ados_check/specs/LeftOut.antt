-- The commands of a line that are given an option of Release 2 which the Shell leaves out; what is told of them, and struck.
use Rattle.std.specs.Prelude.{ℕ, ◌+◌, ◌≡◌, ◌<◌, ◌==◌, ◌&&◌, ◌||◌, Bool, true, false, List, [], ◌∷◌, ◌++◌, Option, Some, None, flat_map, length, nat_le, nat_lt, slice_index, if◌then◌else◌}
use Rattle.std.specs.Borrow.{Bor}
use Rattle.std.specs.Option.{option_map}
use Rattle.std.specs.List.{list_all, list_any}
use Rattle.ados_text.specs.Lines.{lines_of}
use Rattle.ados_text.specs.Text.{Bytes, Text}
use Rattle.ados_flow.specs.Gathering.{without_plus}
use Rattle.ados_items.specs.Items.{bytes_between}
use Rattle.ados_line.specs.Comment.{without_comment}
use Rattle.ados_resident.specs.declared.dialects.Dialect.{Dialect}
use Rattle.ados_script.specs.Lines.{is_some_and, line_of}
use Rattle.ados_vars.specs.Vars.{Pairs}
use Rattle.ados_check.specs.Arguments.{argument_words}
use Rattle.ados_check.specs.CommandWords.{command_name, from_command, lead_of}
use Rattle.ados_check.specs.Phrases.{given_options}
use Rattle.ados_check.specs.ReleaseTwo.{named_command}
use Rattle.ados_check.specs.Signs.{is_at}
use Rattle.ados_check.specs.Table.{AreReleaseTwo}
use Rattle.ados_check.specs.Ticks.{around, texts_in_ticks}
use Rattle.ados_check.specs.declared.arguments.Word.{Word}
use Rattle.ados_check.specs.declared.findings.Finding.{Finding}
use Rattle.ados_check.specs.declared.findings.Problem.{Problem}
use Rattle.ados_check.specs.declared.findings.Problem.TheVariants as problem
use Rattle.ados_check.specs.declared.left_out.LeftOut.{LeftOut}
use Rattle.ados_check.specs.declared.phrases.Given.{Given}
use Rattle.ados_check.specs.declared.release_two.Command.{Command}
use Rattle.ados_check.specs.declared.ticks.Ticked.{Ticked}

-- the options left out that a command is given among the words after it; none if it has no such options
abbrev pub given_by : Dialect → Bytes → List Word → Option Command → List Given
given_by dialect text words None = []
given_by dialect text words (Some command) = given_options dialect command text words

-- the options left out that a command is given, which is the first of some words of a text; no option if there is no word
abbrev pub given_from : List Command → Dialect → Pairs → Bytes → List Word → List Given
given_from commands dialect aliases text [] = []
given_from commands dialect aliases text (word ∷ words) = given_by dialect text words (named_command commands (command_name aliases text word))

-- the options that the command of a text without back-ticks is given, and that are left out
abbrev pub given_in : List Command → Dialect → Pairs → Bytes → List Given
given_in commands dialect aliases text = given_from commands dialect aliases text (from_command (lead_of aliases text) 0 (argument_words text))

-- the name of the command that is the first of some words, if it has more options in Release 2
abbrev pub name_from : List Command → Pairs → Bytes → List Word → Option (Bor Bytes)
name_from commands aliases text [] = None
name_from commands aliases text (word ∷ words) = option_map (λ command. command.name) (named_command commands (command_name aliases text word))

-- the name of the command of a text without back-ticks, if it has more options in Release 2
abbrev pub name_in : List Command → Pairs → Bytes → Option (Bor Bytes)
name_in commands aliases text = name_from commands aliases text (from_command (lead_of aliases text) 0 (argument_words text))

-- the name of the command of a finding of options left out
abbrev pub name_of : LeftOut → Bor Bytes
name_of one = one.command

-- the options left out of a finding; no option without a finding (none)
abbrev pub given_of : Option LeftOut → List Given
given_of None = []
given_of (Some one) = one.options.items

-- what a finding of options left out shows: the place at which the command's text begins, and the options
abbrev pub shown : LeftOut → ℕ × List Given
shown one = (one.from, one.options.items)

-- the options left out that a text gives, with the place at which it begins, alone in a list; the list is empty if there are no options
abbrev pub part_of : ℕ → List Given → List (ℕ × List Given)
part_of from [] = []
part_of from (one ∷ more) = (from, one ∷ more) ∷ []

-- the options left out that a text between back-ticks of a line gives, with the place at which it begins; an empty list if it gives none
abbrev pub ticked_part : List Command → Dialect → Pairs → Bytes → Ticked → List (ℕ × List Given)
ticked_part commands dialect aliases line text = part_of text.from (given_in commands dialect aliases (bytes_between line text.from text.to))

-- what is looked at of a line: all but its comment, and but the `+` at the end of that by which a Run takes the next line
abbrev pub command_text : Bytes → Bytes
command_text line = without_plus (without_comment line)

-- the options left out in what is looked at of a line: in the texts between back-ticks, and in the line around them
abbrev pub left_out_around : List Command → Dialect → Pairs → Bytes → List (ℕ × List Given)
left_out_around commands dialect aliases line =
    flat_map (ticked_part commands dialect aliases line) (texts_in_ticks line) ++ part_of 0 (given_in commands dialect aliases (around line))

-- the options that are left out and that the commands of a line are given, each with the place at which the command's text begins
abbrev pub left_out_in : List Command → Dialect → Pairs → Bytes → List (ℕ × List Given)
left_out_in commands dialect aliases line = left_out_around commands dialect aliases (command_text line)

-- a list is not empty
abbrev pub has_any : {A : Type 0} → List A → Bool
has_any [] = false
has_any (x ∷ xs) = true

-- a line gives an option that is left out to a command
abbrev pub gives_left_out : List Command → Dialect → Pairs → Text → Bool
gives_left_out commands dialect aliases line = has_any (left_out_in commands dialect aliases line)

-- the line of a number gives an option that is left out to a command
abbrev pub gives_at : List Command → Dialect → Pairs → List Text → ℕ → Bool
gives_at commands dialect aliases lines number = is_some_and (gives_left_out commands dialect aliases) (line_of lines number)

-- a problem is that of options left out
abbrev pub is_left_out : Problem → Bool
is_left_out (problem.LeftOut options) = true
is_left_out other = false

-- one of some findings tells that the line of a number gives an option that is left out
abbrev pub is_told : ℕ → List Finding → Bool
is_told number found = list_any (λ one. is_at number one && is_left_out one.problem) found

-- findings tell of an option left out in exactly the lines that give one
abbrev pub TellsLeftOut : Dialect → Pairs → List Text → List Finding → Type 0
TellsLeftOut dialect aliases lines found =
    (commands : List Command) × AreReleaseTwo commands × ((number : ℕ) → is_told number found ≡ gives_at commands dialect aliases lines number)

-- the new findings tell of options left out in the same lines as the old ones, and in this line too if it gives one
abbrev pub ToldWith : ℕ → Bool → List Finding → List Finding → Type 0
ToldWith line gives old new = (number : ℕ) → is_told number new ≡ (is_told number old || (line == number && gives))

-- findings tell of an option left out in each line that gives one
abbrev pub TellsEach : Dialect → List Text → List Finding → Type 0
TellsEach dialect lines found =
    (commands : List Command) × AreReleaseTwo commands × ((number : ℕ) → gives_at commands dialect [] lines number ≡ true → is_told number found ≡ true)

-- the new findings tell of options left out in each line in which the old ones do
abbrev pub StayTold : List Finding → List Finding → Type 0
StayTold old new = (number : ℕ) → is_told number old ≡ true → is_told number new ≡ true

-- findings tell of options left out in no line
abbrev pub TellsNone : List Finding → Type 0
TellsNone found = (number : ℕ) → is_told number found ≡ false

-- the new findings tell of options left out in the same lines as the old ones
abbrev pub ToldTheSame : List Finding → List Finding → Type 0
ToldTheSame old new = (number : ℕ) → is_told number new ≡ is_told number old

-- the new text is as long as the old one, and each byte is unchanged or a blank
abbrev pub IsBlanked : Bytes → Bytes → Type 0
IsBlanked old new = (length new ≡ length old) × ((k : ℕ) → k < length old → (slice_index new k == slice_index old k || slice_index new k == 32) ≡ true)

-- a byte, or a blank in its place if it is struck
abbrev pub struck : Bool → ℕ → ℕ
struck is byte = if is then 32 else byte

-- the new text is as long as the old one; each byte is a blank if `test` holds of its place, and otherwise unchanged
abbrev pub IsStruck : (ℕ → Bool) → Bytes → Bytes → Type 0
IsStruck test old new = (length new ≡ length old) × ((k : ℕ) → k < length old → slice_index new k ≡ struck (test k) (slice_index old k))

-- none of some options has an effect which matters here
abbrev pub are_idle : List Given → Bool
are_idle options = list_all (λ given. given.option.is_idle) options

-- a place is one of those from the place `from` on, and before the place `to`
abbrev pub is_between : ℕ → ℕ → ℕ → Bool
is_between from to k = nat_le from k && nat_lt k to

-- a place lies in an option that has no effect, in a text that begins at the place `from`
abbrev pub is_in : ℕ → ℕ → Given → Bool
is_in from k given = given.option.is_idle && is_between (from + given.from) (from + given.to) k

-- a place lies in one of some options that has no effect, in a text that begins at the place `from`
abbrev pub is_in_idle : ℕ → List Given → ℕ → Bool
is_in_idle from options k = list_any (is_in from k) options

-- a place lies in an option without effect that the commands of a line are given; the line begins at the place `from`
abbrev pub is_idle_in_line : List Command → Dialect → Pairs → ℕ → Bytes → ℕ → Bool
is_idle_in_line commands dialect aliases from line k = list_any (λ part. is_in_idle (from + part.0) part.1 k) (left_out_in commands dialect aliases line)

-- a place lies in an option without effect that one of some lines gives; the first of them begins at the place `from`
abbrev pub is_idle_in_lines : List Command → Dialect → ℕ → List Text → ℕ → Bool
is_idle_in_lines commands dialect from [] k = false
is_idle_in_lines commands dialect from (line ∷ lines) k =
    is_idle_in_line commands dialect [] from line k || is_idle_in_lines commands dialect (from + length line + 1) lines k

-- each byte of a script that lies in an option without effect which one of its lines gives is made a blank, and no other is changed
abbrev pub IsRidOfIdle : Dialect → Bytes → Bytes → Type 0
IsRidOfIdle dialect old new = (commands : List Command) × AreReleaseTwo commands × IsStruck (is_idle_in_lines commands dialect 0 (lines_of old)) old new
