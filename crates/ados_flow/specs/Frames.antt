-- Frames, and the code rule: when a frame ends, and which limit is in force after its end.
use Rattle.std.specs.Prelude.{ℕ, zero, suc, pos, List, [], ◌∷◌, length, drop, ◌+◌, ◌-◌, Bool, true, false, ◌||◌, ◌&&◌, nat_le, Option, Some, None, if◌then◌else◌}
use Rattle.ados_text.specs.Text.{Text}
use Rattle.ados_text.specs.declared.codes.Code.{Code}
use Rattle.ados_find.specs.declared.codes.Codes.{Codes}
use Rattle.ados_find.specs.Codes.{went_well}
use Rattle.ados_find.specs.declared.targets.Target.{Target}
use Rattle.ados_flow.specs.CodeRule.{is_reached}
pub use Rattle.ados_flow.specs.declared.records.Record.{Record}
pub use Rattle.ados_flow.specs.declared.kinds.FrameKind.{FrameKind}
pub use Rattle.ados_flow.specs.declared.kinds.FrameKind.TheVariants.{Script, RunCommands, Tick}

-- a frame of this kind is that of a script
abbrev pub is_script : FrameKind → Bool
is_script (Script name command) = true
is_script RunCommands = false
is_script (Tick before after) = false

-- a frame that runs: what it is; its lines; the index of the next one, from 0; the number, from 1, of the line at which its command began,
-- and 0 before the first; the fail limit in force at its beginning, which is so again after the end of a script in a script; its own
-- output, which is open until it ends; and its last record
pub record FrameState : Type 0 where
  pub kind : FrameKind
  pub lines : List Text
  pub position : ℕ
  pub line : ℕ
  pub limit : Code
  pub output : Option Target
  pub last : Option Record

-- where a command of a script is: the script's lines, and the line at which it began
pub record ScriptLine : Type 0 where
  pub lines : List Text
  pub line : ℕ

-- where a command of a frame of this kind is, if the frame is a script
abbrev pub kind_script_line : FrameKind → FrameState → Option ScriptLine
kind_script_line (Script name command) frame = Some (record { lines = frame.lines; line = frame.line })
kind_script_line RunCommands frame = None
kind_script_line (Tick before after) frame = None

-- where a command of a frame is, if there is a frame and it is a script
abbrev pub script_line_of : Option FrameState → Option ScriptLine
script_line_of None = None
script_line_of (Some frame) = kind_script_line frame.kind frame

-- a frame that continues at a line, from 1
abbrev pub frame_at_line : ℕ → FrameState → FrameState
frame_at_line line frame = record frame { position = line - 1 }

-- a shell has at most this many frames
abbrev pub frame_limit : ℕ
frame_limit = 32

-- a frame that begins, with a fail limit and its own output, if any
abbrev pub new_frame : FrameKind → List Text → Code → Option Target → FrameState
new_frame kind lines limit output = record { kind = kind; lines = lines; position = 0; line = 0; limit = limit; output = output; last = None }

-- a frame that takes a line: its position moves on before the command runs
abbrev pub advanced_frame : FrameState → FrameState
advanced_frame frame = record frame { position = frame.position + 1; line = frame.position + 1 }

-- the lines of a frame that are not taken yet
abbrev pub untaken_lines : FrameState → List Text
untaken_lines frame = drop frame.position frame.lines

-- a frame has no line left
abbrev pub is_over : FrameState → Bool
is_over frame = nat_le (length frame.lines) frame.position

-- how many of the frames are scripts
abbrev pub script_count : List FrameState → ℕ
script_count [] = 0
script_count (frame ∷ frames) = if is_script frame.kind then suc (script_count frames) else script_count frames

-- the fail limit with which a shell begins; it is in force again once no script is left
abbrev pub first_limit : Code
first_limit = record { 0 = pos 10 }

-- the fail limit after the end of a script that began at a limit, with this many scripts below it: that limit, or 10 if no script is left
abbrev pub limit_above_scripts : ℕ → Code → Code
limit_above_scripts zero limit = first_limit
limit_above_scripts (suc n) limit = limit

-- the fail limit after the end of a script that began at a limit, with these frames below it: that limit, or 10 if none of them is a script
abbrev pub limit_above_frames : List FrameState → Code → Code
limit_above_frames frames limit = limit_above_scripts (script_count frames) limit

-- the line at which the command of the newest frame began; 0 on the console
abbrev pub current_line : List FrameState → ℕ
current_line [] = 0
current_line (frame ∷ frames) = frame.line

-- the line of a frame's last record; 0 if it has none
abbrev pub last_line : Option Record → ℕ
last_line None = 0
last_line (Some last) = last.line

-- what the last record of a frame returned; success if it has none
abbrev pub last_codes : Option Record → Codes
last_codes None = went_well
last_codes (Some last) = last.codes

-- the code of the last record reached the limit in force after its command
abbrev pub is_at_limit : Option Record → Bool
is_at_limit None = false
is_at_limit (Some last) = is_reached last.limit last.codes.code

-- the frame is a script whose last record reached the limit: such an end is reported as early, also if that command was Quit or stood on
-- the last line
abbrev pub is_early : FrameKind → Option Record → Bool
is_early kind last = is_script kind && is_at_limit last

-- the record of a command that began at the newest frame's line, with its codes and the limit after it
abbrev pub new_record : List FrameState → Codes → Code → Record
new_record frames answered limit = record { line = current_line frames; codes = answered; limit = limit }

-- a frame, with these frames below it, with the last record of a command's codes and the limit after it
abbrev pub answered_frame : FrameState → List FrameState → Codes → Code → FrameState
answered_frame frame frames answered limit = record frame { last = Some (new_record (frame ∷ frames) answered limit) }

-- a frame ends if no line is left, and a script also if it quits (`quits`) or a code reaches the limit
abbrev pub is_ended : Bool → Codes → Code → FrameState → Bool
is_ended quits answered limit frame = is_over frame || (is_script frame.kind && (quits || is_reached limit answered.code))

-- the word of the command that called a script; the commands of a Run and a command substitution have none
abbrev pub caller_word : FrameKind → Text
caller_word (Script name command) = command
caller_word RunCommands = []
caller_word (Tick before after) = []
