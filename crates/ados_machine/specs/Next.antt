-- Next: the command that a shell does at its next turn, told by the world alone.
use Rattle.std.specs.Prelude.{◌≡◌, ℕ, pos, List, [], ◌∷◌, false, Option, Some, None, slice_get, Result, Ok}
use Rattle.ados_text.specs.Text.{Text}
use Rattle.ados_text.specs.declared.codes.Code.{Code}
use Rattle.ados_line.specs.declared.faults.LineFault.{LineFault}
use Rattle.ados_line.specs.declared.lines.Line.{Line}
use Rattle.ados_line.specs.declared.lines.Expanded.{Expanded}
use Rattle.ados_line.specs.declared.lines.Expanded.TheVariants as expanded
use Rattle.ados_line.specs.Expansion.{expand_raw_line, resume_line}
use Rattle.ados_line.specs.Values.{variables_of}
use Rattle.ados_find.specs.declared.codes.Codes.{Codes}
use Rattle.ados_find.specs.declared.search.Found.{Found}
use Rattle.ados_find.specs.Parts.{locals_of}
use Rattle.ados_find.specs.Search.{found_of}
use Rattle.ados_flow.specs.declared.records.Record.{Record}
use Rattle.ados_flow.specs.Frames.{FrameState, current_line, advanced_frame}
use Rattle.ados_machine.specs.Phases.{Phase, Ready, GoingOn, Waiting}
use Rattle.ados_machine.specs.Items.{TraceItem, Answered}
use Rattle.ados_machine.specs.Shells.{ShellState}
use Rattle.ados_machine.specs.World.{WorldState, numbered_shell, input_of}
use Rattle.ados_machine.specs.Step.{Response, Refused, Accepted}
use Rattle.ados_machine.specs.Laws.{is_breakable}

-- the line that a shell takes next: that of the newest of these frames, at its position, and without a frame the first that waits in this
-- queue
abbrev pub line_to_take : List FrameState → List Text → Option Text
line_to_take [] queue = slice_get queue 0
line_to_take (frame ∷ frames) queue = slice_get frame.lines frame.position

-- the frames after the newest of them has taken its next line
abbrev pub frames_taken : List FrameState → List FrameState
frames_taken [] = []
frames_taken (frame ∷ frames) = advanced_frame frame ∷ frames

-- what a raw line of this shell is read as, by the shell's aliases and variables and the global ones
abbrev pub expansion : WorldState → ShellState → Text → Result Expanded LineFault
expansion w shell raw = expand_raw_line shell.parts.settings.aliases (variables_of (locals_of shell.parts) w.shared.assigns w.shared.files) raw

-- what the next line of this shell is read as, if there is one
abbrev pub expansion_of_line : WorldState → ShellState → Option Text → Option (Result Expanded LineFault)
expansion_of_line w shell None = None
expansion_of_line w shell (Some raw) = Some (expansion w shell raw)

-- what shell k does next, if it is in this phase: its next line, expanded; or the rest of a line whose command substitution has ended
abbrev pub next_in_phase : WorldState → ℕ → ShellState → Phase → Option (Result Expanded LineFault)
next_in_phase w k shell Ready = expansion_of_line w shell (line_to_take shell.frames (input_of w k).queue)
next_in_phase w k shell (GoingOn parted) = Some (resume_line parted.before parted.output parted.after)
next_in_phase w k shell (Waiting wait) = None

-- The frames in which this shell's next line is done, if it is in this phase. In the phase Ready the newest has taken the line; the rest of
-- a line was taken before; a shell that waits does nothing, so that its frames stay.
abbrev pub frames_in_phase : ShellState → Phase → List FrameState
frames_in_phase shell Ready = frames_taken shell.frames
frames_in_phase shell (GoingOn parted) = shell.frames
frames_in_phase shell (Waiting wait) = shell.frames

-- the frames in which this shell's next line is done
abbrev pub frames_at : ShellState → List FrameState
frames_at shell = frames_in_phase shell shell.phase

-- shell k, which is this one, does this at its next turn: a line that was expanded, or has a fault; it is not broken there
pub record Takes (w : WorldState) (k : ℕ) (shell : ShellState) (next : Result Expanded LineFault) : Type 0 where
  pub runs : numbered_shell w k ≡ Some shell
  pub unbroken : is_breakable (Some shell) ≡ false
  pub next_is : next_in_phase w k shell shell.phase ≡ Some next

-- shell k, which is this one, does this line at its next turn, which is a command with its arguments
abbrev pub TakesLine : WorldState → ℕ → ShellState → Line → Type 0
TakesLine w k shell line = Takes w k shell (Ok (expanded.Ready line))

-- what a word stands for in this shell
abbrev pub stands_for : WorldState → ShellState → Text → Found
stands_for w shell word = found_of w.shared shell.parts.directory shell.parts.settings.path word

-- the record with which the items of an event begin, if they begin with one
abbrev pub record_of_items : List (ℕ × TraceItem) → Option Record
record_of_items ((k, Answered depth entry) ∷ items) = Some entry
record_of_items _ = None

-- the record with which an event begins, by the response to it: none if it is refused
abbrev pub first_record : Response → Option Record
first_record (Refused why) = None
first_record (Accepted world out items) = record_of_items items

-- the codes with this return code and this Result2
abbrev pub numbers : ℕ → ℕ → Codes
numbers code result2 = record { code = record { 0 = pos code }; result2 = record { 0 = result2 } }

-- the record of a command at work in these frames, which returned these codes, at this limit
abbrev pub recorded : List FrameState → Codes → Code → Record
recorded frames answered limit = record { line = current_line frames; codes = answered; limit = limit }
