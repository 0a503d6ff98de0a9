-- Broken: what a break sets, and when it is used up.
use Rattle.std.specs.Prelude.{◌≡◌, ◌≢◌, ℕ, List, Bool, true, false, Option, Some, None}
use Rattle.ados_line.specs.declared.lines.Line.{Line}
use Rattle.ados_find.specs.Effects.{Effect}
use Rattle.ados_machine.specs.declared.events.Event.TheVariants.{Turn, Break}
use Rattle.ados_machine.specs.declared.events.BreakKind.TheVariants.{C, D}
use Rattle.ados_machine.specs.declared.outs.Out.{Out}
use Rattle.ados_machine.specs.declared.phases.Wait.{Wait}
use Rattle.ados_machine.specs.declared.phases.Wait.TheVariants.{ForStart, ForPiece}
use Rattle.ados_machine.specs.Breaks.{flags_own}
use Rattle.ados_machine.specs.Children.{is_marked}
use Rattle.ados_machine.specs.Items.{TraceItem}
use Rattle.ados_machine.specs.Laws.{finds_flag}
use Rattle.ados_machine.specs.Phases.{Phase, Waiting}
use Rattle.ados_machine.specs.Plain.{TakesEffect}
use Rattle.ados_machine.specs.Shells.{ShellState}
use Rattle.ados_machine.specs.Step.{Accepted, step_of}
use Rattle.ados_machine.specs.World.{WorldState, numbered_shell}

-- the shell is there and is flagged: its scripts end at its next turn
abbrev pub flag_of_shell : Option ShellState → Bool
flag_of_shell None = false
flag_of_shell (Some shell) = shell.flagged

-- the shell of a number runs and is flagged: its scripts end at its next turn
abbrev pub is_flagged : WorldState → ℕ → Bool
is_flagged w k = flag_of_shell (numbered_shell w k)

-- a shell that waits for this has a program that is to start, or whose output is read
abbrev pub is_starting_or_read : Wait → Bool
is_starting_or_read (ForStart starting) = true
is_starting_or_read (ForPiece child) = true
is_starting_or_read wait = false

-- a shell in this phase has a program that is to start, or whose output is read, so that a break by C marks it
abbrev pub may_be_marked : Phase → Bool
may_be_marked (Waiting wait) = is_starting_or_read wait
may_be_marked phase = false

-- the shell is there, and has a program that a break by C marks
abbrev pub shell_may_be_marked : Option ShellState → Bool
shell_may_be_marked None = false
shell_may_be_marked (Some shell) = may_be_marked shell.phase

-- from one world to the other shell k was broken by C: its program is marked if it is to start or is read, and nothing is flagged
pub record IsBrokenByC (k : ℕ) (w world : WorldState) : Type 0 where
  pub mark : is_marked world k ≡ shell_may_be_marked (numbered_shell w k)
  pub flag : is_flagged world k ≡ is_flagged w k
  pub others : (j : ℕ) → j ≢ k → numbered_shell world j ≡ numbered_shell w j

-- from one world to the other shell k was broken by D: it is flagged, and nothing is marked
pub record IsBrokenByD (k : ℕ) (w world : WorldState) : Type 0 where
  pub flag : is_flagged world k ≡ true
  pub mark : is_marked world k ≡ is_marked w k
  pub others : (j : ℕ) → j ≢ k → numbered_shell world j ≡ numbered_shell w j

-- a break by C that is accepted marks the program of its shell, if that is to start or is read, flags nothing, and leaves the other shells
-- as they are
abbrev pub BreaksByCMark : Type 0
BreaksByCMark = (w : WorldState) (k : ℕ) (world : WorldState) (out : Out) (items : List (ℕ × TraceItem)) →
    step_of w (Break k C) ≡ Accepted world out items → IsBrokenByC k w world

-- a break by D that is accepted flags its shell, marks nothing, and leaves the other shells as they are
abbrev pub BreaksByDFlag : Type 0
BreaksByDFlag = (w : WorldState) (k : ℕ) (world : WorldState) (out : Out) (items : List (ℕ × TraceItem)) →
    step_of w (Break k D) ≡ Accepted world out items → IsBrokenByD k w world

-- a turn that finds the flag in a script uses it up
abbrev pub BreaksUseUpTheFlag : Type 0
BreaksUseUpTheFlag = (w : WorldState) (k : ℕ) (world : WorldState) (out : Out) (items : List (ℕ × TraceItem)) →
    finds_flag w (Turn k) ≡ true → step_of w (Turn k) ≡ Accepted world out items → is_flagged world k ≡ false

-- after a plain command its shell is flagged exactly if it runs on, and the command was a break of that shell itself by D
abbrev pub CommandsUseUpTheFlag : Type 0
CommandsUseUpTheFlag =
    (w : WorldState) (k : ℕ) (shell : ShellState) (line : Line) (effect : Effect) (world : WorldState) (out : Out) (items : List (ℕ × TraceItem)) (now : ShellState) →
    TakesEffect w k shell line effect → step_of w (Turn k) ≡ Accepted world out items → numbered_shell world k ≡ Some now →
    now.flagged ≡ flags_own shell.parts.number effect.breaking
