-- Called: the lines of a script that is called, and the next one after each command.
use Rattle.std.specs.Prelude.{◌-◌, ◌≡◌, ◌⊎◌, ℕ, List, [], ◌∷◌, drop, false, length, nat_le, Some, None, Ok}
use Rattle.std.specs.Fmt.{decimal}
use Rattle.ados_text.specs.Lines.{lines_of}
use Rattle.ados_text.specs.Text.{Text, Bytes}
use Rattle.ados_line.specs.declared.lines.Line.{Line}
use Rattle.ados_ram.specs.FileOperations.{read_result}
use Rattle.ados_ram.specs.Place.{Place}
use Rattle.ados_ram.specs.Written.{full_path}
use Rattle.ados_subst.specs.Scripts.{script_of}
use Rattle.ados_find.specs.declared.codes.Codes.{Codes}
use Rattle.ados_find.specs.declared.search.Found.TheVariants as found
use Rattle.ados_find.specs.Effects.{Effect}
use Rattle.ados_flow.specs.Actions as flow
use Rattle.ados_flow.specs.CodeRule.{is_reached}
use Rattle.ados_flow.specs.declared.kinds.FrameKind.{FrameKind}
use Rattle.ados_flow.specs.declared.kinds.FrameKind.TheVariants.{Script}
use Rattle.ados_flow.specs.Frames.{FrameState, frame_limit, is_over, new_frame}
use Rattle.ados_resident.specs.declared.commands.Builtin.{Builtin}
use Rattle.ados_machine.specs.declared.events.Event.{Event}
use Rattle.ados_machine.specs.declared.events.Event.TheVariants.{Turn}
use Rattle.ados_machine.specs.declared.outs.Out.{Out}
use Rattle.ados_machine.specs.Course.{outputs_of}
use Rattle.ados_machine.specs.Items.{TraceItem}
use Rattle.ados_machine.specs.Next.{TakesLine, stands_for, frames_at, recorded}
use Rattle.ados_machine.specs.Plain.{TakesCommand, TakesEffect, action_at, limit_after}
use Rattle.ados_machine.specs.Shells.{ShellState}
use Rattle.ados_machine.specs.Sinks.{Console, newest_sink}
use Rattle.ados_machine.specs.Step.{Accepted, step_of}
use Rattle.ados_machine.specs.Trace.{frames_of}
use Rattle.ados_machine.specs.World.{WorldState, numbered_shell, seen_shells}

-- A line without redirections whose word stands for a script with these bytes, of which its arguments make these lines: after its turn a
-- new frame has these lines, from the first, and the frames of before are below it.
abbrev pub ScriptsBeginWithTheirLines : Type 0
ScriptsBeginWithTheirLines =
    (w : WorldState) (k : ℕ) (shell : ShellState) (line : Line) (place : Place) (bytes : Bytes) (first : Text) (further : List Text)
    (world : WorldState) (out : Out) (items : List (ℕ × TraceItem)) →
    TakesLine w k shell line → stands_for w shell line.command ≡ found.Script place → line.input ≡ None → line.output ≡ None →
    read_result w.shared.files (outputs_of (seen_shells w.shells)) place ≡ Ok bytes →
    script_of (lines_of bytes) line.args (decimal shell.parts.number) ≡ Ok (first ∷ further) →
    nat_le frame_limit (length (frames_at shell)) ≡ false →
    step_of w (Turn k) ≡ Accepted world out items →
    frames_of k world ≡ new_frame (Script (full_path w.shared.files place) line.command) (first ∷ further) shell.parts.limit None ∷ frames_at shell

-- A command that calls a script, as Execute does: after its turn a new frame has the script's lines, from the first, and the frames of
-- before are below it.
abbrev pub CalledScriptsBeginWithTheirLines : Type 0
CalledScriptsBeginWithTheirLines =
    (w : WorldState) (k : ℕ) (shell : ShellState) (line : Line) (builtin : Builtin) (name first : Text) (further : List Text)
    (world : WorldState) (out : Out) (items : List (ℕ × TraceItem)) →
    TakesCommand w k shell line builtin → action_at w shell line builtin ≡ flow.Calls (record { name = name; script = first ∷ further }) →
    nat_le frame_limit (length (frames_at shell)) ≡ false →
    step_of w (Turn k) ≡ Accepted world out items →
    frames_of k world ≡ new_frame (Script name line.command) (first ∷ further) shell.parts.limit None ∷ frames_at shell

-- After a plain command below the limit that is not the last of its frame, the frame goes on: its lines are the same, its position is that
-- after the command's line, and its last record is that of the command.
abbrev pub FramesGoOn : Type 0
FramesGoOn =
    (w : WorldState) (k : ℕ) (shell : ShellState) (line : Line) (effect : Effect) (frame : FrameState) (frames : List FrameState)
    (world : WorldState) (out : Out) (items : List (ℕ × TraceItem)) →
    TakesEffect w k shell line effect → (effect.output ≡ []) ⊎ (newest_sink (frames_at shell) ≡ Console) →
    frames_at shell ≡ frame ∷ frames → is_over frame ≡ false → is_reached (limit_after effect.change shell.parts.limit) effect.codes.code ≡ false →
    step_of w (Turn k) ≡ Accepted world out items →
    frames_of k world ≡ record frame { last = Some (recorded (frame ∷ frames) effect.codes (limit_after effect.change shell.parts.limit)) } ∷ frames

-- After a plain command that jumps, as Skip does, the frame goes on at the line to which it leads.
abbrev pub JumpsLeadToTheirLine : Type 0
JumpsLeadToTheirLine =
    (w : WorldState) (k : ℕ) (shell : ShellState) (line : Line) (builtin : Builtin) (to : ℕ) (codes : Codes) (frame : FrameState) (frames : List FrameState)
    (world : WorldState) (out : Out) (items : List (ℕ × TraceItem)) →
    TakesCommand w k shell line builtin → action_at w shell line builtin ≡ flow.Jumps to codes →
    frames_at shell ≡ frame ∷ frames → nat_le (length frame.lines) (to - 1) ≡ false → is_reached shell.parts.limit codes.code ≡ false →
    step_of w (Turn k) ≡ Accepted world out items →
    frames_of k world ≡ record frame { position = to - 1; last = Some (recorded (frame ∷ frames) codes shell.parts.limit) } ∷ frames

-- what each of these frames is, with its lines
abbrev pub lines_in : List FrameState → List (FrameKind × List Text)
lines_in [] = []
lines_in (frame ∷ frames) = (frame.kind, frame.lines) ∷ lines_in frames

-- by kind and lines, the frames after an event are those before, of which the newest may have ended; or there is one new frame on top of
-- all
abbrev pub LinesStay : List (FrameKind × List Text) → List (FrameKind × List Text) → Type 0
LinesStay before after = ((n : ℕ) × (after ≡ drop n before)) ⊎ ((new : FrameKind × List Text) × (after ≡ new ∷ before))

-- no event changes the lines of a frame that is there before and after it
abbrev pub FramesKeepTheirLines : Type 0
FramesKeepTheirLines = (w : WorldState) (event : Event) (world : WorldState) (out : Out) (items : List (ℕ × TraceItem)) (k : ℕ) (old now : ShellState) →
    step_of w event ≡ Accepted world out items → numbered_shell w k ≡ Some old → numbered_shell world k ≡ Some now → LinesStay (lines_in old.frames) (lines_in now.frames)
