-- Begun: the shell that Run makes.
use Rattle.std.specs.Prelude.{◌≡◌, ℕ, pos, List, [], ◌∷◌, false, Option, Some, None, option_map}
use Rattle.ados_line.specs.declared.lines.Line.{Line}
use Rattle.ados_find.specs.declared.search.Found.TheVariants as found
use Rattle.ados_find.specs.Settings.{copied_settings}
use Rattle.ados_find.specs.declared.settings.Settings.{Settings}
use Rattle.ados_flow.specs.declared.kinds.FrameKind.TheVariants.{RunCommands}
use Rattle.ados_flow.specs.Frames.{new_frame}
use Rattle.ados_flow.specs.Gathering.{before_plus, has_no_command}
use Rattle.ados_resident.specs.declared.internal_commands.InternalCommand.TheVariants as internal
use Rattle.ados_machine.specs.declared.events.Event.TheVariants.{Turn}
use Rattle.ados_machine.specs.declared.outs.Out.{Out}
use Rattle.ados_machine.specs.Items.{TraceItem}
use Rattle.ados_machine.specs.Next.{TakesLine, stands_for, frames_at}
use Rattle.ados_machine.specs.Numbers.{free_number}
use Rattle.ados_machine.specs.Plain.{directory_at}
use Rattle.ados_machine.specs.Shells.{ShellState}
use Rattle.ados_machine.specs.Sinks.{Console, newest_sink}
use Rattle.ados_machine.specs.Step.{Accepted, step_of}
use Rattle.ados_machine.specs.Trace.{frames_of}
use Rattle.ados_machine.specs.World.{WorldState, numbered_shell}

-- the settings of the shell of a number, if it runs
abbrev pub settings_at : WorldState → ℕ → Option Settings
settings_at w k = option_map (λ shell. shell.parts.settings) (numbered_shell w k)

-- shell k takes this line next, whose command is Run: it names no input and no output, has a command for the new shell, and does not
-- continue in the next line
pub record TakesRun (w : WorldState) (k : ℕ) (shell : ShellState) (line : Line) : Type 0 where
  pub takes : TakesLine w k shell line
  pub is : stands_for w shell line.command ≡ found.Internal internal.Run
  pub no_input : line.input ≡ None
  pub no_output : line.output ≡ None
  pub command : has_no_command line.args ≡ false
  pub ends : before_plus line.args ≡ None

-- the shell of this number begins where its maker is, with copies of its maker's settings, and with the text after Run as its one command,
-- at the limit 10
pub record BeginsBy (maker : ShellState) (line : Line) (world : WorldState) (number : ℕ) : Type 0 where
  pub directory : directory_at world number ≡ Some maker.parts.directory
  pub settings : settings_at world number ≡ Some (copied_settings number maker.parts.settings)
  pub frames : frames_of number world ≡ new_frame RunCommands (line.args ∷ []) (record { 0 = pos 10 }) None ∷ []

-- a Run whose output goes to the console makes a shell at the lowest free number, which begins by its maker and its line
abbrev pub ShellsBeginByTheirMakers : Type 0
ShellsBeginByTheirMakers =
    (w : WorldState) (k : ℕ) (shell : ShellState) (line : Line) (number : ℕ) (world : WorldState) (out : Out) (items : List (ℕ × TraceItem)) →
    TakesRun w k shell line → newest_sink (frames_at shell) ≡ Console → free_number w.shells ≡ Some number →
    step_of w (Turn k) ≡ Accepted world out items → BeginsBy shell line world number
