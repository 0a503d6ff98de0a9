-- What a command needs to see.
use Rattle.std.specs.Prelude.{◌≡◌, List, Option}
use Rattle.ados_text.specs.Text.{Text}
use Rattle.ados_ram.specs.InUse.{InUse}
use Rattle.ados_find.specs.Shared.{SharedState}
use Rattle.ados_find.specs.Views.{View}
use Rattle.ados_flow.specs.Frames.{ScriptLine}
use Rattle.ados_resident.specs.declared.commands.Builtin.{Builtin}
use Rattle.ados_machine.specs.Commands.{action_of}
use Rattle.ados_find.specs.Parts.{Parts}

-- to this command, in this shared state, it makes no difference which of these two is what is in use
abbrev pub ServesInUse : SharedState → Builtin → InUse → InUse → Type 0
ServesInUse shared builtin busy other =
    (script_line : Option ScriptLine) (args : Text) (view : View) →
    action_of builtin shared script_line (record view { busy = busy }) args ≡ action_of builtin shared script_line (record view { busy = other }) args

-- to this command it makes no difference which of these two are the names of the shells that run
abbrev pub ServesNames : Builtin → List (Option Text) → List (Option Text) → Type 0
ServesNames builtin names other =
    (shared : SharedState) (script_line : Option ScriptLine) (args : Text) (view : View) →
    action_of builtin shared script_line (record view { names = names }) args ≡ action_of builtin shared script_line (record view { names = other }) args

-- to this command it makes no difference which of these two are the resident entries from which the shells run
abbrev pub ServesUses : Builtin → List Text → List Text → Type 0
ServesUses builtin uses other =
    (shared : SharedState) (script_line : Option ScriptLine) (args : Text) (view : View) →
    action_of builtin shared script_line (record view { uses = uses }) args ≡ action_of builtin shared script_line (record view { uses = other }) args

-- what commands read of a shell with these parts, when this is in use, and the shells that run have these names and run from these resident
-- entries
abbrev pub shell_view : Parts → InUse → List (Option Text) → List Text → View
shell_view parts busy names uses = record { parts = parts; busy = busy; names = names; uses = uses }

-- to this command, in this shared state, it makes no difference which of these two views it reads
abbrev pub Serves : SharedState → Builtin → View → View → Type 0
Serves shared builtin view other =
    (script_line : Option ScriptLine) (args : Text) →
    action_of builtin shared script_line view args ≡ action_of builtin shared script_line other args
