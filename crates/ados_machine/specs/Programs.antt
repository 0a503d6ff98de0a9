-- Programs: the resident entry from which a program is started, and its first fault.
use Rattle.std.specs.Prelude.{◌≡◌, ℕ, List, Bool, true, Option, Some, None, is_some}
use Rattle.ados_text.specs.Text.{Bytes, Text}
use Rattle.ados_text.specs.declared.codes.Result2.{Result2}
use Rattle.ados_items.specs.Items.{words_of}
use Rattle.ados_line.specs.declared.lines.Line.{Line}
use Rattle.ados_find.specs.declared.search.Found.{Found}
use Rattle.ados_resident.specs.declared.programs.Program.{Program}
use Rattle.ados_machine.specs.declared.requests.Request.TheVariants.{Start}
use Rattle.ados_find.specs.declared.search.Found.TheVariants as found
use Rattle.ados_resident.specs.declared.programs.Program.TheVariants.{Disk, Host}
use Rattle.ados_resident.specs.declared.residents.Resident.{Resident}
use Rattle.ados_machine.specs.declared.answers.Answer.TheVariants.{«Bytes» as Piece}
use Rattle.ados_machine.specs.declared.events.Event.TheVariants.{Turn, Answer}
use Rattle.ados_machine.specs.declared.outs.Out.{Out}
use Rattle.ados_machine.specs.declared.phases.Child.{Child}
use Rattle.ados_machine.specs.declared.phases.Wait.{Wait}
use Rattle.ados_machine.specs.declared.phases.Wait.TheVariants.{ForPiece, ForEnd}
use Rattle.ados_machine.specs.Codes.{Awaits}
use Rattle.ados_machine.specs.InUse.{StaysWhile, has_request, resident_name_of}
use Rattle.ados_machine.specs.Items.{TraceItem}
use Rattle.ados_machine.specs.Next.{TakesLine, stands_for}
use Rattle.ados_machine.specs.Phases.{Phase, Waiting}
use Rattle.ados_machine.specs.Shells.{ShellState}
use Rattle.ados_machine.specs.Sinks.{Console, newest_sink}
use Rattle.ados_machine.specs.Step.{Accepted, step_of}
use Rattle.ados_machine.specs.World.{WorldState, numbered_shell}

-- the program of the host that a program is, if it is one
abbrev pub host_program : Program → Option Text
host_program (Disk command) = None
host_program (Host program) = Some program

-- the program of the host that a word stands for, by what it stands for, if it is one
abbrev pub program_found : Found → Option Text
program_found (found.Resident entry) = host_program entry.program
program_found (found.File file) = host_program file.program
program_found word = None

-- a line without redirections whose word stands for a program of the host asks for its start, with the words of its arguments
abbrev pub StartsAskForTheirProgram : Type 0
StartsAskForTheirProgram =
    (w : WorldState) (k : ℕ) (shell : ShellState) (line : Line) (program : Text) (words : List Text) (world : WorldState) (out : Out) (items : List (ℕ × TraceItem)) →
    TakesLine w k shell line → program_found (stands_for w shell line.command) ≡ Some program → line.input ≡ None → line.output ≡ None → words_of line.args ≡ Some words →
    step_of w (Turn k) ≡ Accepted world out items →
    out.request ≡ Some (Start (record { shell = shell.parts.number; program = program; args = words }))

-- A line whose word stands for an entry of the resident list that is a program of the host: if after its turn something is asked of a
-- launcher, that entry is in use.
abbrev pub StartsUseTheirEntry : Type 0
StartsUseTheirEntry =
    (w : WorldState) (k : ℕ) (shell : ShellState) (line : Line) (entry : Resident) (program : Text) (world : WorldState) (out : Out) (items : List (ℕ × TraceItem)) →
    TakesLine w k shell line → stands_for w shell line.command ≡ found.Resident entry → entry.program ≡ Host program →
    step_of w (Turn k) ≡ Accepted world out items → has_request world k ≡ true → resident_name_of world k ≡ Some entry.name

-- the fault that came first of the program of a shell that waits for this, if one came
abbrev pub fault_while : Wait → Option Result2
fault_while (ForPiece child) = child.fault
fault_while (ForEnd child) = child.fault
fault_while wait = None

-- the fault that came first of the program of a shell in this phase, if one came
abbrev pub fault_in : Phase → Option Result2
fault_in (Waiting wait) = fault_while wait
fault_in phase = None

-- the fault that came first of a shell's program, if the shell is there and one came
abbrev pub fault_of_shell : Option ShellState → Option Result2
fault_of_shell None = None
fault_of_shell (Some shell) = fault_in shell.phase

-- the fault that came first of the program of the shell of a number, if one came
abbrev pub fault_of : WorldState → ℕ → Option Result2
fault_of w k = fault_of_shell (numbered_shell w k)

-- the shell of a number runs a program at which a fault came
abbrev pub has_fault : WorldState → ℕ → Bool
has_fault w k = is_some (fault_of w k)

-- the first fault of a program stays as long as the program runs
abbrev pub FirstFaultsStay : Type 0
FirstFaultsStay = StaysWhile has_fault fault_of

-- a piece of a program's output is printed as it is, and once, if the program has no fault and its output goes to the console
abbrev pub PiecesArePrinted : Type 0
PiecesArePrinted =
    (w : WorldState) (k : ℕ) (shell : ShellState) (child : Child) (bytes : Bytes) (world : WorldState) (out : Out) (items : List (ℕ × TraceItem)) →
    Awaits w k shell (ForPiece child) → child.output ≡ None → child.fault ≡ None → newest_sink shell.frames ≡ Console →
    step_of w (Answer k (Piece bytes)) ≡ Accepted world out items → out.bytes ≡ bytes
