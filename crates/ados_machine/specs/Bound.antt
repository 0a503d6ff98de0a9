-- Bound: the devices that a plain command uses, and the binding of those that are Defers.
use Rattle.std.specs.Prelude.{◌≡◌, ◌⊎◌, ℕ, List, [], ◌++◌, Option, Some, None}
use Rattle.std.specs.List.{flat_map}
use Rattle.ados_text.specs.Text.{Text}
use Rattle.ados_line.specs.declared.lines.Line.{Line}
use Rattle.ados_assign.specs.Assigns.{AssignMap}
use Rattle.ados_assign.specs.Uses.{reached_devices, with_used_defers_bound}
use Rattle.ados_find.specs.Effects.{Effect}
use Rattle.ados_find.specs.Devices.{searched_devices}
use Rattle.ados_resident.specs.declared.commands.Builtin.{Builtin}
use Rattle.ados_machine.specs.declared.events.Event.TheVariants.{Turn}
use Rattle.ados_machine.specs.declared.outs.Out.{Out}
use Rattle.ados_machine.specs.Items.{TraceItem}
use Rattle.ados_machine.specs.Next.{frames_at, line_to_take}
use Rattle.ados_machine.specs.Phases.{Phase, Ready, GoingOn, Waiting}
use Rattle.ados_machine.specs.Plain.{TakesEffect}
use Rattle.ados_machine.specs.Shells.{ShellState}
use Rattle.ados_machine.specs.Sinks.{Console, newest_sink}
use Rattle.ados_machine.specs.Step.{Accepted, step_of}
use Rattle.ados_machine.specs.Uses.{variable_devices, devices_of}
use Rattle.ados_machine.specs.World.{WorldState, input_of}

-- these devices, and for each those to which the text of its assign leads on
abbrev pub with_reached : AssignMap → List Text → List Text
with_reached assigns devices = flat_map (reached_devices assigns) devices

-- the devices that the expansion of a raw line uses, if there is one: ENV:, if the line asks for a global variable
abbrev pub devices_of_raw : WorldState → ShellState → Option Text → List Text
devices_of_raw w shell None = []
devices_of_raw w shell (Some raw) = with_reached w.shared.assigns (variable_devices shell.parts raw)

-- the devices that the expansion of the next line of shell k uses, which is in this phase: only a ready shell expands a line
abbrev pub devices_in_phase : WorldState → ℕ → ShellState → Phase → List Text
devices_in_phase w k shell Ready = devices_of_raw w shell (line_to_take shell.frames (input_of w k).queue)
devices_in_phase w k shell (GoingOn parted) = []
devices_in_phase w k shell (Waiting wait) = []

-- the devices that the search for a command's word uses
abbrev pub devices_of_search : WorldState → ShellState → Text → List Text
devices_of_search w shell word = with_reached w.shared.assigns (searched_devices w.shared shell.parts.directory shell.parts.settings.path word)

-- the devices that the plain command of this line of shell k uses: those of the line's expansion, of the search for its word, and of its
-- arguments
abbrev pub devices_used : WorldState → ℕ → ShellState → Line → Builtin → List Text
devices_used w k shell line builtin =
    (devices_in_phase w k shell shell.phase ++ devices_of_search w shell line.command) ++ with_reached w.shared.assigns (devices_of builtin w.shared shell.parts line.args)

-- the assigns after a plain command are those that it leaves, in which each Defer that it used, and whose text leads to a directory, is
-- bound to that directory
abbrev pub UsedDefersAreBound : Type 0
UsedDefersAreBound =
    (w : WorldState) (k : ℕ) (shell : ShellState) (line : Line) (effect : Effect) (world : WorldState) (out : Out) (items : List (ℕ × TraceItem)) →
    (takes : TakesEffect w k shell line effect) → (effect.output ≡ []) ⊎ (newest_sink (frames_at shell) ≡ Console) →
    step_of w (Turn k) ≡ Accepted world out items →
    world.shared.assigns ≡ with_used_defers_bound (devices_used w k shell line takes.builtin) effect.shared.files effect.shared.assigns
