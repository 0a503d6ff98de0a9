-- Plain: a command of the shell's own, without redirections, does what its row says.
use Rattle.std.specs.Prelude.{◌≡◌, ◌≢◌, ◌⊎◌, ℕ, pos, List, [], ◌∷◌, ◌++◌, true, false, Option, Some, None, is_some, is_none, take, option_map, Ok, codes}
use Rattle.std.specs.List.{All, fold}
use Rattle.std.specs.FinMap as finite
use Rattle.ados_text.specs.Text.{Text, Bytes}
use Rattle.ados_text.specs.declared.codes.Code.{Code}
use Rattle.ados_line.specs.declared.lines.Line.{Line}
use Rattle.ados_ram.specs.Place.{Place, key_of, moved_place}
use Rattle.ados_readargs.specs.declared.args.Arg.{Arg}
use Rattle.ados_readargs.specs.Args.{option_number}
use Rattle.ados_readargs.specs.Fill.{fill_of}
use Rattle.ados_find.specs.declared.changes.Change.{Change}
use Rattle.ados_find.specs.declared.changes.Change.TheVariants.{Limit}
use Rattle.ados_find.specs.declared.outcomes.Renamed.{Renamed}
use Rattle.ados_find.specs.declared.search.Found.{Found}
use Rattle.ados_find.specs.declared.search.Found.TheVariants as found
use Rattle.ados_find.specs.Effects.{Effect}
use Rattle.ados_find.specs.Renames.{renames_of}
use Rattle.ados_find.specs.Search.{is_path}
use Rattle.ados_flow.specs.Actions as flow
use Rattle.ados_flow.specs.declared.kinds.FrameKind.TheVariants.{Tick}
use Rattle.ados_flow.specs.Frames.{FrameState, is_over, script_line_of}
use Rattle.ados_resident.specs.Commands.{disk_builtin, internal_builtin}
use Rattle.ados_resident.specs.Residents.{resident_internal}
use Rattle.ados_resident.specs.declared.commands.Builtin.{Builtin}
use Rattle.ados_resident.specs.declared.commands.Builtin.TheVariants.{Env}
use Rattle.ados_resident.specs.declared.commands.EnvCommand.TheVariants as env
use Rattle.ados_resident.specs.declared.dialects.Dialect.{Dialect}
use Rattle.ados_resident.specs.declared.programs.Program.{Program}
use Rattle.ados_resident.specs.declared.programs.Program.TheVariants.{Disk, Host}
use Rattle.ados_resident.specs.declared.residents.Internal.{Internal}
use Rattle.ados_machine.specs.declared.events.Event.TheVariants.{Turn}
use Rattle.ados_machine.specs.declared.outs.Out.{Out}
use Rattle.ados_machine.specs.Apply.{newest}
use Rattle.ados_machine.specs.Commands.{action_of}
use Rattle.ados_machine.specs.Items.{TraceItem}
use Rattle.ados_machine.specs.Lines.{view_of}
use Rattle.ados_machine.specs.Next.{TakesLine, stands_for, frames_at, first_record, numbers, recorded}
use Rattle.ados_machine.specs.Phases.{GoingOn}
use Rattle.ados_machine.specs.Prompts.{query_of}
use Rattle.ados_machine.specs.Shells.{ShellState}
use Rattle.ados_machine.specs.Sinks.{Console, newest_sink}
use Rattle.ados_machine.specs.Step.{Accepted, start, step_of}
use Rattle.ados_machine.specs.World.{WorldState, numbered_shell}

-- the shell's own command that a program is, if it is one
abbrev pub disk_command : Program → Option Builtin
disk_command (Disk command) = Some (disk_builtin command)
disk_command (Host program) = None

-- the shell's own command that a word stands for, by what it stands for, if it is one
abbrev pub own_command : Found → Option Builtin
own_command (found.Internal command) = internal_builtin command
own_command (found.Resident entry) = disk_command entry.program
own_command (found.File file) = disk_command file.program
own_command (found.Script place) = None
own_command (found.Directory place) = None
own_command (found.NotExecutable fault) = None
own_command found.Unknown = None

-- the line of a command names no input and no output, and does not ask for its arguments
pub record IsPlain (dialect : Dialect) (builtin : Builtin) (line : Line) : Type 0 where
  pub no_input : line.input ≡ None
  pub no_output : line.output ≡ None
  pub no_prompt : query_of dialect builtin line.args ≡ None

-- shell k, which is this one, does this plain line next, whose word stands for this command
pub record TakesCommand (w : WorldState) (k : ℕ) (shell : ShellState) (line : Line) (builtin : Builtin) : Type 0 where
  pub takes : TakesLine w k shell line
  pub is : own_command (stands_for w shell line.command) ≡ Some builtin
  pub plain : IsPlain w.shared.dialect builtin line

-- what the row of this command says of the line that this shell does next
abbrev pub action_at : WorldState → ShellState → Line → Builtin → flow.Action
action_at w shell line builtin =
    action_of builtin w.shared (script_line_of (newest (frames_at shell))) (view_of line.command None (start w shell)) line.args

-- shell k, which is this one, does this plain line next, and its command's row has this effect
pub record TakesEffect (w : WorldState) (k : ℕ) (shell : ShellState) (line : Line) (effect : Effect) : Type 0 where
  pub builtin : Builtin
  pub command : TakesCommand w k shell line builtin
  pub does : action_at w shell line builtin ≡ flow.Does effect

-- a word that is no path stands for the internal command of its name, if the resident list has that and it is enabled
abbrev pub EnabledCommandsAreFound : Type 0
EnabledCommandsAreFound = (w : WorldState) (shell : ShellState) (word : Text) (internal : Internal) →
    is_path word ≡ false → resident_internal w.shared.residents word ≡ Some internal → internal.is_disabled ≡ false →
    stands_for w shell word ≡ found.Internal internal.command

-- the limit after a command that makes this change, if it makes one: the one that it sets, or that of before
abbrev pub limit_after : Option Change → Code → Code
limit_after (Some (Limit limit)) before = limit
limit_after change before = before

-- A plain command's record has the codes of its effect, and the limit that it sets, if it sets one; this is said of output that goes to the
-- console, or none, as a file may fail to take it.
abbrev pub EffectsAreRecorded : Type 0
EffectsAreRecorded = (w : WorldState) (k : ℕ) (shell : ShellState) (line : Line) (effect : Effect) →
    TakesEffect w k shell line effect →
    (effect.output ≡ []) ⊎ (newest_sink (frames_at shell) ≡ Console) →
    first_record (step_of w (Turn k)) ≡ Some (recorded (frames_at shell) effect.codes (limit_after effect.change shell.parts.limit))

-- what a plain command puts out on the console comes first of what its event prints
abbrev pub EffectsArePrinted : Type 0
EffectsArePrinted =
    (w : WorldState) (k : ℕ) (shell : ShellState) (line : Line) (effect : Effect) (world : WorldState) (out : Out) (items : List (ℕ × TraceItem)) →
    TakesEffect w k shell line effect → newest_sink (frames_at shell) ≡ Console → step_of w (Turn k) ≡ Accepted world out items →
    (further : Bytes) × (out.bytes ≡ effect.output ++ further)

-- FailAt n returns 0, and sets the limit to n
abbrev pub FailAtSetsTheLimit : Type 0
FailAtSetsTheLimit = (w : WorldState) (k : ℕ) (shell : ShellState) (line : Line) (args : List Arg) (n : ℕ) →
    TakesCommand w k shell line (Env env.FailAt) → fill_of (codes "RCLIM/N") line.args ≡ Ok args → option_number args 0 ≡ Some (pos n) →
    first_record (step_of w (Turn k)) ≡ Some (recorded (frames_at shell) (numbers 0 0) (record { 0 = pos n }))

-- What a plain command puts out in a command substitution goes into the line of that: after the last line of its frame that line goes on
-- with what was kept, the first 1,024 bytes of it.
abbrev pub SubstitutionsKeepTheirOutput : Type 0
SubstitutionsKeepTheirOutput =
    (w : WorldState) (k : ℕ) (shell : ShellState) (line : Line) (effect : Effect) (before after : Text) (frame : FrameState) (frames : List FrameState)
    (output : Bytes) (kept : List Bytes) (world : WorldState) (out : Out) (items : List (ℕ × TraceItem)) (now : ShellState) →
    TakesEffect w k shell line effect → frames_at shell ≡ frame ∷ frames → frame.kind ≡ Tick before after → is_over frame ≡ true → shell.kept ≡ output ∷ kept →
    step_of w (Turn k) ≡ Accepted world out items → numbered_shell world k ≡ Some now →
    now.phase ≡ GoingOn (record { before = before; output = take 1024 (output ++ effect.output); after = after })

-- an object was at its old place in one world, and is no longer there in the other
pub record HasGone (renamed : Renamed) (w world : WorldState) : Type 0 where
  pub was : is_some (finite.get w.shared.files (key_of renamed.from)) ≡ true
  pub gone : is_none (finite.get world.shared.files (key_of renamed.from)) ≡ true

-- the current directory of the shell of a number, if it runs
abbrev pub directory_at : WorldState → ℕ → Option Place
directory_at w k = option_map (λ shell. shell.parts.directory) (numbered_shell w k)

-- After a plain command the current directory of each other shell has moved with all that was renamed, one object after the other; if
-- nothing was, it stays.
abbrev pub DirectoriesAreCarried : Type 0
DirectoriesAreCarried =
    (w : WorldState) (k : ℕ) (shell : ShellState) (line : Line) (effect : Effect) (world : WorldState) (out : Out) (items : List (ℕ × TraceItem))
    (j : ℕ) (place : Place) →
    TakesEffect w k shell line effect → step_of w (Turn k) ≡ Accepted world out items →
    All (λ renamed. HasGone renamed w world) (renames_of effect.renamed effect.gathered) → j ≢ k → directory_at w j ≡ Some place →
    directory_at world j ≡ Some (fold (λ place renamed. moved_place renamed.from renamed.to place) place (renames_of effect.renamed effect.gathered))
