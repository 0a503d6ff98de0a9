-- Codes: what a command returns, by numbers.
use Rattle.std.specs.Prelude.{◌≡◌, ◌≤◌, ◌<◌, ℕ, pos, List, [], ◌∷◌, ◌++◌, codes, Some, None, Err}
use Rattle.std.specs.Fmt.{decimal}
use Rattle.ados_text.specs.declared.codes.Result2.{Result2}
use Rattle.ados_line.specs.declared.faults.LineFault.{LineFault}
use Rattle.ados_line.specs.Faults.{result2_of}
use Rattle.ados_line.specs.declared.lines.Line.{Line}
use Rattle.ados_find.specs.declared.codes.Codes.{Codes}
use Rattle.ados_find.specs.declared.search.Found.TheVariants as found
use Rattle.ados_machine.specs.declared.answers.Answer.{Answer as Reply}
use Rattle.ados_machine.specs.declared.answers.Answer.TheVariants.{NotFound, Denied, Memory, Other, Exit, Signal, WaitFault}
use Rattle.ados_machine.specs.declared.events.Event.TheVariants.{Turn, Answer}
use Rattle.ados_machine.specs.declared.phases.Child.{Child}
use Rattle.ados_machine.specs.declared.phases.Starting.{Starting}
use Rattle.ados_machine.specs.declared.phases.Wait.{Wait}
use Rattle.ados_machine.specs.declared.phases.Wait.TheVariants.{ForStart, ForEnd}
use Rattle.ados_machine.specs.Phases.{Waiting}
use Rattle.ados_machine.specs.Next.{Takes, TakesLine, stands_for, frames_at, first_record, numbers, recorded}
use Rattle.ados_machine.specs.Shells.{ShellState}
use Rattle.ados_machine.specs.declared.outs.Out.{Out}
use Rattle.ados_machine.specs.Items.{TraceItem}
use Rattle.ados_machine.specs.Step.{Accepted, step_of}
use Rattle.ados_machine.specs.World.{WorldState, numbered_shell}

-- a command that is not known returns 10 and 205
abbrev pub UnknownCommandsFail : Type 0
UnknownCommandsFail = (w : WorldState) (k : ℕ) (shell : ShellState) (line : Line) →
    TakesLine w k shell line → stands_for w shell line.command ≡ found.Unknown →
    first_record (step_of w (Turn k)) ≡ Some (recorded (frames_at shell) (numbers 10 205) shell.parts.limit)

-- of a command that is not known the console is told so, and with the limit 10 also that it failed
abbrev pub UnknownCommandsAreTold : Type 0
UnknownCommandsAreTold = (w : WorldState) (k : ℕ) (shell : ShellState) (line : Line) (world : WorldState) (out : Out) (items : List (ℕ × TraceItem)) →
    TakesLine w k shell line → stands_for w shell line.command ≡ found.Unknown → frames_at shell ≡ [] → shell.parts.limit ≡ record { 0 = pos 10 } →
    step_of w (Turn k) ≡ Accepted world out items →
    out.bytes ≡ (line.command ++ codes ": " ++ codes "object not found" ++ 10 ∷ []) ++ (line.command ++ codes " failed returncode " ++ decimal 10 ++ 10 ∷ [])

-- a line with a fault returns 20 and the fault's number
abbrev pub FaultyLinesFail : Type 0
FaultyLinesFail = (w : WorldState) (k : ℕ) (shell : ShellState) (fault : LineFault) →
    Takes w k shell (Err fault) →
    first_record (step_of w (Turn k)) ≡ Some (recorded (frames_at shell) (record { code = record { 0 = pos 20 }; result2 = result2_of fault }) shell.parts.limit)

-- shell k is this one, and waits for this
pub record Awaits (w : WorldState) (k : ℕ) (shell : ShellState) (wait : Wait) : Type 0 where
  pub runs : numbered_shell w k ≡ Some shell
  pub waits : shell.phase ≡ Waiting wait

-- an answer to shell k, which waits for a launcher, is recorded as the return of its command with these codes
abbrev pub Returns : WorldState → ℕ → ShellState → Reply → Codes → Type 0
Returns w k shell reply answered = first_record (step_of w (Answer k reply)) ≡ Some (recorded shell.frames answered shell.parts.limit)

-- what the command of shell k returns at its program's end, if there was no fault before: 0 for the exit status 0, 5 for one below 10, 10
-- for one below 20, and 20 for any other
pub record ExitsReturn (w : WorldState) (k : ℕ) (shell : ShellState) : Type 0 where
  pub well : Returns w k shell (Exit 0) (numbers 0 0)
  pub warns : (status : ℕ) → 1 ≤ status → status < 10 → Returns w k shell (Exit status) (numbers 5 0)
  pub fails_at_10 : (status : ℕ) → 10 ≤ status → status < 20 → Returns w k shell (Exit status) (numbers 10 0)
  pub fails_at_20 : (status : ℕ) → 20 ≤ status → Returns w k shell (Exit status) (numbers 20 0)

-- a command whose program ends without a fault returns 0, 5, 10 or 20, by the exit status
abbrev pub ExitStatusesAreReturned : Type 0
ExitStatusesAreReturned = (w : WorldState) (k : ℕ) (shell : ShellState) (child : Child) →
    Awaits w k shell (ForEnd child) → child.fault ≡ None → ExitsReturn w k shell

-- what the command of shell k returns at its program's end, if there was this fault before: 20 and the fault, however the program ends
pub record FaultsReturn (w : WorldState) (k : ℕ) (shell : ShellState) (fault : Result2) : Type 0 where
  pub exits : (status : ℕ) → Returns w k shell (Exit status) (record { code = record { 0 = pos 20 }; result2 = fault })
  pub signals : Returns w k shell Signal (record { code = record { 0 = pos 20 }; result2 = fault })
  pub lost : Returns w k shell WaitFault (record { code = record { 0 = pos 20 }; result2 = fault })

-- a command whose program had a fault returns 20 and that fault when the program ends
abbrev pub FaultsAreReturned : Type 0
FaultsAreReturned = (w : WorldState) (k : ℕ) (shell : ShellState) (child : Child) (fault : Result2) →
    Awaits w k shell (ForEnd child) → child.fault ≡ Some fault → FaultsReturn w k shell fault

-- what the command of shell k returns if its program could not be started: 20, and 205 if there is no such program, 305 if it may not be
-- started, 103 if there is no memory, and else 236
pub record StartsReturn (w : WorldState) (k : ℕ) (shell : ShellState) : Type 0 where
  pub not_found : Returns w k shell NotFound (numbers 20 205)
  pub denied : Returns w k shell Denied (numbers 20 305)
  pub memory : Returns w k shell Memory (numbers 20 103)
  pub other : Returns w k shell Other (numbers 20 236)

-- a command whose program could not be started returns 20, and a number by the reason
abbrev pub FailedStartsAreReturned : Type 0
FailedStartsAreReturned = (w : WorldState) (k : ℕ) (shell : ShellState) (starting : Starting) →
    Awaits w k shell (ForStart starting) → StartsReturn w k shell
