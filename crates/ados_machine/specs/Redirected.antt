-- Redirected: a line whose output is redirected.
use Rattle.std.specs.Prelude.{◌≡◌, ℕ, [], true, false, Some, None, Ok}
use Rattle.std.specs.FinMap as finite
use Rattle.ados_line.specs.declared.lines.Line.{Line}
use Rattle.ados_line.specs.declared.lines.Redirection.{Redirection}
use Rattle.ados_ram.specs.Entry.{is_directory}
use Rattle.ados_ram.specs.Place.{Place, key_of, any_same}
use Rattle.ados_ram.specs.declared.entries.Entry.{Entry}
use Rattle.ados_ram.specs.FileOperations.{way_fault}
use Rattle.ados_find.specs.declared.targets.Target.TheVariants.{At}
use Rattle.ados_find.specs.Targets.{target_of}
use Rattle.ados_resident.specs.declared.commands.Builtin.{Builtin}
use Rattle.ados_machine.specs.declared.events.Event.TheVariants.{Turn}
use Rattle.ados_machine.specs.Course.{outputs_of}
use Rattle.ados_machine.specs.Next.{TakesLine, stands_for, frames_at, first_record, numbers, recorded}
use Rattle.ados_machine.specs.Plain.{own_command}
use Rattle.ados_machine.specs.Prompts.{query_of}
use Rattle.ados_machine.specs.Shells.{ShellState}
use Rattle.ados_machine.specs.Step.{step_of}
use Rattle.ados_machine.specs.World.{WorldState, seen_shells}

-- shell k, which is this one, does this line next: it is one of the shell's own commands, whose output is to go to a file at this place; it
-- names no input, and does not ask for its arguments
pub record TakesRedirected (w : WorldState) (k : ℕ) (shell : ShellState) (line : Line) (output : Redirection) (place : Place) : Type 0 where
  pub takes : TakesLine w k shell line
  pub builtin : Builtin
  pub is : own_command (stands_for w shell line.command) ≡ Some builtin
  pub no_input : line.input ≡ None
  pub no_prompt : query_of w.shared.dialect builtin line.args ≡ None
  pub output_is : line.output ≡ Some output
  pub leads : target_of w.shared shell.parts.directory output.name ≡ Ok (At place)

-- at this place there is this file, which is the open output of a shell
pub record IsOpenFile (w : WorldState) (place : Place) (entry : Entry) : Type 0 where
  pub way : way_fault w.shared.files [] (key_of place) ≡ None
  pub there : finite.get w.shared.files (key_of place) ≡ Some entry
  pub file : is_directory entry ≡ false
  pub is_open : any_same (outputs_of (seen_shells w.shells)) (key_of place) ≡ true

-- a file that is an open output, of this shell or of another, is not opened again: the command returns 20 and 202 (object in use)
abbrev pub OpenOutputsAreInUse : Type 0
OpenOutputsAreInUse =
    (w : WorldState) (k : ℕ) (shell : ShellState) (line : Line) (output : Redirection) (place : Place) (entry : Entry) →
    TakesRedirected w k shell line output place → IsOpenFile w place entry →
    first_record (step_of w (Turn k)) ≡ Some (recorded (frames_at shell) (numbers 20 202) shell.parts.limit)
