-- What an error says of a line of a script is so.
use Rattle.std.specs.Prelude.{ℕ, ◌-◌, ◌≡◌, ◌<◌, true, List, [], ◌∷◌, Option, Some, None, Result, Ok, Err, IfSome, length, slice_index}
use Rattle.std.specs.List.{All}
use Rattle.ados_text.specs.declared.codes.TheConstants.Result2.{OBJECT_NOT_FOUND}
use Rattle.ados_text.specs.Lines.{lines_of}
use Rattle.ados_text.specs.Text.{Bytes, Text}
use Rattle.ados_find.specs.Codes.{fail_codes}
use Rattle.ados_find.specs.Shared.{SharedState}
use Rattle.ados_find.specs.Views.{View}
use Rattle.ados_flow.specs.Actions.{Quits}
use Rattle.ados_flow.specs.Execute.{fault_answer}
use Rattle.ados_flow.specs.Frames.{ScriptLine}
use Rattle.ados_line.specs.declared.faults.LineFault.{LineFault}
use Rattle.ados_line.specs.declared.faults.LineFault.TheVariants.{LineTooLong}
use Rattle.ados_line.specs.declared.lines.Expanded.{Expanded}
use Rattle.ados_line.specs.declared.lines.Expanded.TheVariants.{Ready}
use Rattle.ados_line.specs.declared.lines.Line.{Line}
use Rattle.ados_line.specs.Alias.{with_alias}
use Rattle.ados_line.specs.Comment.{without_comment}
use Rattle.ados_line.specs.Expansion.{expand_raw_line}
use Rattle.ados_line.specs.Values.{Variables}
use Rattle.ados_machine.specs.Commands.{action_of}
use Rattle.ados_readargs.specs.declared.errors.ArgFault.{ArgFault}
use Rattle.ados_readargs.specs.Faults.{result2_of}
use Rattle.ados_resident.specs.declared.commands.Builtin.{Builtin}
use Rattle.ados_resident.specs.declared.commands.Builtin.TheVariants.{Flow}
use Rattle.ados_resident.specs.declared.commands.FlowCommand.{FlowCommand}
use Rattle.ados_resident.specs.declared.commands.FlowCommand.TheVariants.{Else, Skip}
use Rattle.ados_resident.specs.declared.dialects.Dialect.{Dialect}
use Rattle.ados_script.specs.Lines.{line_of}
use Rattle.ados_vars.specs.Vars.{Pairs}
use Rattle.ados_check.specs.Commands.{meaning_of}
use Rattle.ados_check.specs.Copies.{is_flat_copy}
use Rattle.ados_check.specs.Directives.{IsNeverCalled, IsSample}
use Rattle.ados_check.specs.Signs.{line_at, signs_at, told_sign}
use Rattle.ados_check.specs.declared.commands.Meaning.TheVariants as meaning
use Rattle.ados_check.specs.declared.findings.Finding.{Finding}
use Rattle.ados_check.specs.declared.findings.Problem.{Problem}
use Rattle.ados_check.specs.declared.findings.Problem.TheVariants as problem

-- whatever the variables are, each shell that has no alias for a line's first word reads the line as `read` says
abbrev pub IsReadAs : Text → Result Expanded LineFault → Type 0
IsReadAs line read = (aliases : Pairs) (variables : Variables) → with_alias aliases (without_comment line) ≡ without_comment line
    → expand_raw_line aliases variables line ≡ read

-- whatever the variables are, each shell that has no alias for a line's first word reads the line as this command, with this text of
-- arguments
abbrev pub IsCommand : Dialect → Text → Builtin → Text → Type 0
IsCommand dialect line command args = (read : Line) × IsReadAs line (Ok (Ready read)) × (meaning_of dialect read.command ≡ meaning.Builtin command) × (read.args ≡ args)

-- wherever a command is executed with these arguments in a world of a dialect, it answers the fault, and does nothing else
abbrev pub Answers : Dialect → Builtin → Text → ArgFault → Type 0
Answers dialect command args fault = (shared : SharedState) (script_line : Option ScriptLine) (view : View) → shared.dialect ≡ dialect
    → action_of command shared script_line view args ≡ fault_answer shared (result2_of fault)

-- wherever a command is executed with these arguments in the line of a number of a script, whose lines are `sample`, the script ends there
-- with 20 and 205
abbrev pub EndsScript : Dialect → FlowCommand → Text → List Text → ℕ → Type 0
EndsScript dialect command args sample number = (shared : SharedState) (view : View) → shared.dialect ≡ dialect
    → action_of (Flow command) shared (Some (record { lines = sample; line = number })) view args ≡ Quits (fail_codes OBJECT_NOT_FOUND)

-- two lists of lines have the same line of a number, of which P holds
abbrev pub IsHere : List Text → List Text → ℕ → (Text → Type 0) → Type 0
IsHere lines sample number P = (line : Text) × (line_of lines number ≡ Some line) × (line_of sample number ≡ Some line) × P line

-- With some arguments, for which the script's lines are the sample, the line of a number stays as it is written, and P holds of the sample
-- and of that line. It need not be so with all arguments: an error is found for one call of the script.
abbrev pub IsLine : List Text → ℕ → (List Text → Text → Type 0) → Type 0
IsLine lines number P = (sample : List Text) × IsSample lines sample × IsHere lines sample number (P sample)

-- a line is a command of the Shell with arguments that it does not take: it answers the fault
abbrev pub IsRefused : Dialect → ArgFault → Text → Type 0
IsRefused dialect fault line = (command : Builtin) × (args : Text) × IsCommand dialect line command args × Answers dialect command args fault

-- the line of a number in a script is this jump, and leads nowhere
abbrev pub IsLost : Dialect → ℕ → FlowCommand → List Text → Text → Type 0
IsLost dialect number command sample line = (args : Text) × IsCommand dialect line (Flow command) args × EndsScript dialect command args sample number

-- a line is a Copy that puts what is in several directories into one
abbrev pub IsFlat : Dialect → Text → Type 0
IsFlat dialect line = (command : Builtin) × (args : Text) × IsCommand dialect line command args × (is_flat_copy dialect command args ≡ true)

-- a line has this many bytes, more than a line may have
abbrev pub IsLong : ℕ → Text → Type 0
IsLong count line = (length line ≡ count) × (512 < count) × IsReadAs line (Err LineTooLong)

-- What a problem says of the line of a number is so, in a script of these lines as they are written. Of signs the file itself says
-- more than its lines do; of what is not an error nothing is said, but of a Copy.
abbrev pub SaysSo : Dialect → List Text → ℕ → Problem → Type 0
SaysSo dialect lines number (problem.LongLine count) = IsLine lines number (λ sample. IsLong count)
SaysSo dialect lines number (problem.Line fault) = IsLine lines number (λ sample line. IsReadAs line (Err fault))
SaysSo dialect lines number (problem.Arguments _ _ fault) = IsLine lines number (λ sample. IsRefused dialect fault)
SaysSo dialect lines number problem.BadDirective = IsNeverCalled lines number
SaysSo dialect lines number (problem.NoLab label) = IsLine lines number (IsLost dialect number Skip)
SaysSo dialect lines number problem.ElseWithoutEndIf = IsLine lines number (IsLost dialect number Else)
SaysSo dialect lines number problem.FlatCopy = IsLine lines number (λ sample. IsFlat dialect)
SaysSo dialect lines number other = Unit {0}

-- what a problem says of the line of a number is so, and the problem does not speak of a sign
abbrev pub IsSound : Dialect → List Text → ℕ → Problem → Type 0
IsSound dialect lines number what = (told_sign what ≡ None) × SaysSo dialect lines number what

-- what each finding says of its line is so
abbrev pub AreSo : Dialect → List Text → List Finding → Type 0
AreSo dialect lines found = All (λ one. SaysSo dialect lines one.line one.problem) found

-- what a problem says of the line of a number is so whatever the dialect and the script are, and the problem does not speak of a sign
abbrev pub IsAlwaysSound : ℕ → Problem → Type 0
IsAlwaysSound number what = (dialect : Dialect) (lines : List Text) → IsSound dialect lines number what

-- what each finding says of its line is so whatever the dialect and the script are
abbrev pub AreAlwaysSo : List Finding → Type 0
AreAlwaysSo found = (dialect : Dialect) (lines : List Text) → AreSo dialect lines found

-- if what each old finding says of its line is so, then what each new one says is so
abbrev pub StaySo : List Finding → List Finding → Type 0
StaySo old new = (dialect : Dialect) (lines : List Text) → AreSo dialect lines old → AreSo dialect lines new

-- if what each old finding says of its line is so, and what a problem says of the line of a number, then what each new finding says is so
abbrev pub AreSoWith : ℕ → Problem → List Finding → List Finding → Type 0
AreSoWith number what old new = (dialect : Dialect) (lines : List Text) → AreSo dialect lines old → SaysSo dialect lines number what → AreSo dialect lines new

-- if what each old finding says of its line is so, and the problem that was found, if there is one, is sound in the line of a number, then
-- what each new finding says is so
abbrev pub AreSoWithFound : ℕ → Option Problem → List Finding → List Finding → Type 0
AreSoWithFound number found old new =
    (dialect : Dialect) (lines : List Text) → AreSo dialect lines old → IfSome found (IsSound dialect lines number) → AreSo dialect lines new

-- a line ends in a carriage return, which no comment takes
abbrev pub EndsInReturn : Bytes → Type 0
EndsInReturn line = (slice_index line (length line - 1) ≡ 13) × (length (without_comment line) ≡ length line)

-- what a problem says of the bytes of its line is so
abbrev pub SaysOfBytes : Bytes → Problem → Type 0
SaysOfBytes line (problem.EndReturn others) = EndsInReturn line
SaysOfBytes line (problem.PrintedReturn others) = EndsInReturn line
SaysOfBytes line other = Unit {0}

-- the sign of which a problem speaks is the one that is to be found in the line of a number
abbrev pub IsSignOf : Bytes → ℕ → Problem → Type 0
IsSignOf bytes number what = IfSome (told_sign what) (λ byte. signs_at bytes number ≡ byte ∷ [])

-- what a finding in a file of these bytes says is so
pub record IsSo (dialect : Dialect) (bytes : Bytes) (one : Finding) : Type 0 where
  pub says : SaysSo dialect (lines_of bytes) one.line one.problem
  pub sign : IsSignOf bytes one.line one.problem
  pub of_bytes : SaysOfBytes (line_at bytes one.line) one.problem
