-- What is said of a line by what it is read as.
use Rattle.std.proofs.Common.{ℕ, ◌≡◌, ◌∙◌, ◌<◌, List, true, is_some, Option, Some, None, Result, Ok, Err, refl, ap, sym, subst, inl, inr, arith, length}
use Rattle.std.specs.Prelude.{IfOk, IfSome}
use Rattle.ados_text.specs.declared.codes.TheConstants.Result2.{OBJECT_NOT_FOUND}
use Rattle.ados_text.specs.Text.{Text}
use Rattle.ados_find.specs.Codes.{fail_codes}
use Rattle.ados_find.specs.Shared.{SharedState}
use Rattle.ados_find.specs.Views.{View}
use Rattle.ados_flow.specs.Actions.{Quits}
use Rattle.ados_flow.specs.Rows.{row_of}
use Rattle.ados_line.specs.declared.faults.LineFault.{LineFault}
use Rattle.ados_line.specs.declared.faults.LineFault.TheVariants.{NoMemory}
use Rattle.ados_line.specs.declared.lines.Expanded.{Expanded}
use Rattle.ados_line.specs.declared.lines.Expanded.TheVariants.{Ready}
use Rattle.ados_line.specs.declared.lines.Line.{Line}
use Rattle.ados_line.specs.Alias.{with_alias}
use Rattle.ados_line.specs.Answers.{Gives}
use Rattle.ados_line.specs.Comment.{without_comment}
use Rattle.ados_line.specs.Expansion.{expand_raw_line}
use Rattle.ados_line.specs.Values.{Variables}
use Rattle.ados_machine.specs.Commands.{action_by, action_of, template_of}
use Rattle.ados_readargs.specs.declared.args.Arg.{Arg}
use Rattle.ados_readargs.specs.declared.errors.ArgFault.{ArgFault}
use Rattle.ados_readargs.specs.Fill.{fill_of}
use Rattle.ados_resident.specs.declared.commands.Builtin.{Builtin}
use Rattle.ados_resident.specs.declared.commands.Builtin.TheVariants.{Flow}
use Rattle.ados_resident.specs.declared.commands.FlowCommand.{FlowCommand}
use Rattle.ados_resident.specs.declared.commands.FlowCommand.TheVariants.{Else, Skip}
use Rattle.ados_resident.specs.declared.dialects.Dialect.{Dialect}
use Rattle.ados_script.specs.Lines.{line_of}
use Rattle.ados_vars.specs.Vars.{Pairs}
use Rattle.ados_check.specs.Commands.{meaning_of}
use Rattle.ados_check.specs.Copies.{is_flat_copy}
use Rattle.ados_check.specs.Directives.{IsSample}
use Rattle.ados_check.specs.Errors.{Answers, EndsScript, IsCommand, IsHere, IsLine, IsLost, IsReadAs, IsSound, SaysSo}
use Rattle.ados_check.specs.Jumps.{lost_jump}
use Rattle.ados_check.specs.Signs.{told_sign}
use Rattle.ados_check.specs.declared.commands.Meaning.TheVariants as meaning
use Rattle.ados_check.specs.declared.findings.Problem.{Problem}
use Rattle.ados_check.specs.declared.findings.Problem.TheVariants as problem
use Rattle.ados_check.proofs.ReadingLemmas.{long_line}

-- a line of more than 512 bytes
pub long_so : (dialect : Dialect) (lines sample : List Text) (number count : ℕ) (line : Text) → IsSample lines sample → line_of lines number ≡ Some line → line_of sample number ≡ Some line
    → length line ≡ count → 512 < count → IsSound dialect lines number (problem.LongLine count)
long_so dialect lines sample number count line is written taken len more =
    (refl, (sample, is, (line, written, taken, (len, more, λ aliases variables alias. long_line aliases variables line (omega (arith, len, more))))))

-- what a line is read as, whatever the variables are
abbrev pub IsGiven : Text → Result Expanded LineFault → Type 0
IsGiven line read = (aliases : Pairs) (variables : Variables) → with_alias aliases (without_comment line) ≡ without_comment line → Gives read (expand_raw_line aliases variables line)

fault-given : (fault : LineFault) (whole : Result Expanded LineFault) → (fault ≡ NoMemory → ⊥) → Gives (Err fault) whole → whole ≡ Err fault
fault-given fault whole other (inl none) = absurd (other cc)
fault-given fault whole other (inr is) = sym is

ready-given : (line : Line) (whole : Result Expanded LineFault) → Gives (Ok (Ready line)) whole → whole ≡ Ok (Ready line)
ready-given line whole (inl none) = cc
ready-given line whole (inr is) = sym is

-- a line that has a fault
pub fault_so : (dialect : Dialect) (lines sample : List Text) (number : ℕ) (line : Text) (fault : LineFault) → IsSample lines sample → line_of lines number ≡ Some line → line_of sample number ≡ Some line
    → (fault ≡ NoMemory → ⊥) → IsGiven line (Err fault) → IsSound dialect lines number (problem.Line fault)
fault_so dialect lines sample number line fault is written taken other given = (
  refl,
  (sample, is, (line, written, taken, λ aliases variables alias. fault-given fault (expand_raw_line aliases variables line) other (given aliases variables alias))),
)

-- a line that has a command
pub ready_here : (lines sample : List Text) (number : ℕ) (line : Text) (read : Line) → line_of lines number ≡ Some line → line_of sample number ≡ Some line
    → IsGiven line (Ok (Ready read)) → IsHere lines sample number (λ raw. IsReadAs raw (Ok (Ready read)))
ready_here lines sample number line read written taken given =
    (line, written, taken, λ aliases variables alias. ready-given read (expand_raw_line aliases variables line) (given aliases variables alias))

-- a command of the Shell
pub command_here : (dialect : Dialect) (lines sample : List Text) (number : ℕ) (read : Line) (command : Builtin) → IsHere lines sample number (λ raw. IsReadAs raw (Ok (Ready read)))
    → meaning_of dialect read.command ≡ meaning.Builtin command → IsHere lines sample number (λ raw. IsCommand dialect raw command read.args)
command_here dialect lines sample number read command here means = (here.0, here.1, here.2, (read, here.3, means, refl))

-- its arguments have a fault
pub refused_so : (dialect : Dialect) (lines sample : List Text) (number : ℕ) (command : Builtin) (args name template : Text) (found : Option ArgFault) (fault : ArgFault) → IsSample lines sample
    → IsHere lines sample number (λ raw. IsCommand dialect raw command args) → IfSome found (Answers dialect command args) → found ≡ Some fault
    → IsSound dialect lines number (problem.Arguments name template fault)
refused_so dialect lines sample number command args name template found fault is here answers same =
    (refl, (sample, is, (here.0, here.1, here.2, (command, args, here.3, subst (λ one. IfSome one (Answers dialect command args)) same answers))))

ends : (dialect : Dialect) (command : FlowCommand) (text : Text) (args : List Arg) (sample : List Text) (number : ℕ) → fill_of (template_of dialect (Flow command)) text ≡ Ok args
    → ((shared : SharedState) (view : View) → shared.dialect ≡ dialect → row_of command shared (Some (record { lines = sample; line = number })) view args ≡ Quits (fail_codes OBJECT_NOT_FOUND))
    → EndsScript dialect command text sample number
unfolding action_of
ends dialect command text args sample number fill quits shared view same =
    ap (action_by (Flow command) shared (Some (record { lines = sample; line = number })) view) (ap (λ d. fill_of (template_of d (Flow command)) text) same ∙ fill) ∙ quits shared view same

lost-is : (dialect : Dialect) (lines sample : List Text) (number : ℕ) (command : FlowCommand) (text : Text) → IsSample lines sample
    → IsHere lines sample number (λ raw. IsCommand dialect raw (Flow command) text) → EndsScript dialect command text sample number → IsLine lines number (IsLost dialect number command)
lost-is dialect lines sample number command text is here last = (sample, is, (here.0, here.1, here.2, (text, here.3, last)))

by-kind : (dialect : Dialect) (lines : List Text) (number : ℕ) (command : FlowCommand) (what : Problem) → lost_jump what ≡ Some command
    → IsLine lines number (IsLost dialect number command) → SaysSo dialect lines number what
by-kind dialect lines number command (problem.NoLab label) kind lost = let same : command ≡ Skip = cc in subst (λ c. IsLine lines number (IsLost dialect number c)) same lost
by-kind dialect lines number command problem.ElseWithoutEndIf kind lost = let same : command ≡ Else = cc in subst (λ c. IsLine lines number (IsLost dialect number c)) same lost
by-kind dialect lines number command (problem.LongLine count) kind lost = cc
by-kind dialect lines number command (problem.Line fault) kind lost = cc
by-kind dialect lines number command (problem.Arguments name template fault) kind lost = cc
by-kind dialect lines number command problem.BadDirective kind lost = cc
by-kind dialect lines number command problem.FlatCopy kind lost = cc
by-kind dialect lines number command other kind lost = tt

-- a jump that leads nowhere
pub lost_so : (dialect : Dialect) (lines sample : List Text) (number : ℕ) (command : FlowCommand) (text : Text) (args : List Arg) (what : Problem) → IsSample lines sample
    → IsHere lines sample number (λ raw. IsCommand dialect raw (Flow command) text) → fill_of (template_of dialect (Flow command)) text ≡ Ok args
    → ((shared : SharedState) (view : View) → shared.dialect ≡ dialect → row_of command shared (Some (record { lines = sample; line = number })) view args ≡ Quits (fail_codes OBJECT_NOT_FOUND))
    → told_sign what ≡ None → lost_jump what ≡ Some command → IsSound dialect lines number what
lost_so dialect lines sample number command text args what is here fill quits told kind =
    (told, by-kind dialect lines number command what kind (lost-is dialect lines sample number command text is here (ends dialect command text args sample number fill quits)))

-- what is found of a command that may be a jump
pub jump_so : {E : Type 0} (dialect : Dialect) (lines sample : List Text) (number : ℕ) (command : Builtin) (flow : FlowCommand) (template text bytes : Text) (args : List Arg)
    (result : Result (Option Problem) E) → command ≡ Flow flow → template ≡ template_of dialect (Flow flow) → bytes ≡ text → fill_of template bytes ≡ Ok args
    → IsSample lines sample → IsHere lines sample number (λ raw. IsCommand dialect raw command text)
    → IfOk result (λ found. IfSome found (λ what. told_sign what ≡ None)) → IfOk result (λ found. IfSome found (λ what. lost_jump what ≡ Some flow))
    → IfOk result (λ found. is_some found ≡ true → (shared : SharedState) (view : View) → shared.dialect ≡ dialect
    → row_of flow shared (Some (record { lines = sample; line = number })) view args ≡ Quits (fail_codes OBJECT_NOT_FOUND))
    → IfOk result (λ found. IfSome found (IsSound dialect lines number))
jump_so dialect lines sample number command flow template text bytes args (Err e) flows same whole fill is here told kind quits = tt
jump_so dialect lines sample number command flow template text bytes args (Ok None) flows same whole fill is here told kind quits = tt
jump_so dialect lines sample number command flow template text bytes args (Ok (Some what)) flows same whole fill is here told kind quits =
    lost_so dialect lines sample number flow text args what is (subst (λ c. IsHere lines sample number (λ raw. IsCommand dialect raw c text)) flows here)
    (subst (λ b. fill_of (template_of dialect (Flow flow)) b ≡ Ok args) whole (subst (λ t. fill_of t bytes ≡ Ok args) same fill))
    (quits refl) told kind

-- a Copy that puts what is in several directories into one
pub flat_so : {E : Type 0} (dialect : Dialect) (lines sample : List Text) (number : ℕ) (command : Builtin) (text : Text) (result : Result (Option Problem) E)
    → IsSample lines sample → IsHere lines sample number (λ raw. IsCommand dialect raw command text)
    → IfOk result (λ found. is_some found ≡ is_flat_copy dialect command text) → IfOk result (λ found. IfSome found (λ what. what ≡ problem.FlatCopy))
    → IfOk result (λ found. IfSome found (IsSound dialect lines number))
flat_so dialect lines sample number command text (Err e) is here told kind = tt
flat_so dialect lines sample number command text (Ok None) is here told kind = tt
flat_so dialect lines sample number command text (Ok (Some what)) is here told kind =
    subst (IsSound dialect lines number) (sym kind) (refl, (sample, is, (here.0, here.1, here.2, (command, text, here.3, sym told))))
