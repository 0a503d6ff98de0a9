-- Two descriptions of a shell that runs alone: its stack of frames, and the place in the direct meaning.
use Rattle.std.proofs.Common.{◌≡◌, ℕ, ◌<◌, ◌≤◌, zero, suc, List, [], ◌∷◌, true, false, nat_le, Option, Some, None, length, refl, arith, get_or, if◌then◌else◌}
use Rattle.std.specs.List.{slice_get}
use Rattle.std.proofs.lemmas.Bool.{leb-false, leb-true}
use Rattle.std.proofs.lemmas.Option.{slice_get_past, slice_get-get_or}
use Rattle.ados_text.specs.Text.{Text}
use Rattle.ados_flow.specs.declared.kinds.FrameKind.{FrameKind}
use Rattle.ados_flow.specs.declared.kinds.FrameKind.TheVariants.{Script, RunCommands, Tick}
use Rattle.ados_flow.specs.Frames.{FrameState, is_over, is_script, script_count, kind_script_line, limit_above_frames, last_line, last_codes, is_early, caller_word}
use Rattle.ados_machine.specs.declared.answers.Answer.{Answer as Reply}
use Rattle.ados_machine.specs.declared.phases.Parted.{Parted}
use Rattle.ados_machine.specs.Phases.{Phase, Ready, GoingOn}
use Rattle.ados_machine.specs.Sinks.{newest_sink, frame_outputs}
use Rattle.ados_machine.specs.Names.{innermost_name}
use Rattle.ados_machine.specs.CodeRule.{end_at_break, with_limit, after_end, finish}
use Rattle.ados_machine.specs.Apply.{here_of}
use Rattle.ados_flow.specs.declared.records.Record.{Record}
use Rattle.ados_machine.specs.Whole.{Broken, Common, At, Whole, Done, Late, Short, remainder, configuration, here_at}
use Rattle.ados_machine.specs.LoneShell.{lines}
use Rattle.ados_machine.proofs.Alone.{with_end, Lone, Going, Unfed, go_by, exec}

abbrev pub Next : Type 0
Next = ℕ → List Reply → Option Record → Common → Lone

-- what a shell does once its newest frame has ended
abbrev pub ended : ℕ → FrameState → List FrameState → Next
ended k frame frames n answers last common =
    go_by k (exec k n answers) (record common { reports = with_end k frame.kind (last_line last) (last_codes last) (is_early frame.kind last) common.reports })
    (after_end frame.kind
    (finish (caller_word frame.kind) (last_codes last) false frames (with_limit (limit_above_frames frames frame.limit) common.rule_state)) frames common.rule_state)

abbrev pub IsRunning : List Reply → Lone → Type 0
IsRunning answers (Going answers' frames phase common) = answers' ≡ answers
IsRunning answers _ = ⊥

-- there is at least one
abbrev pub IsSome : ℕ → Type 0
IsSome n = (m : ℕ) × (n ≡ suc m)

-- what a shell does at a break that came to this frame
abbrev pub breaking : ℕ → FrameState → List FrameState → Next
breaking k frame frames n answers last common = go_by k (exec k n answers) common (end_at_break (record frame { last = last } ∷ frames) common.rule_state)

-- a shell does what lines mean, in or below which this many scripts run, and then the one or, at a break, the other
abbrev pub AgreesBy : ℕ → Lone → Whole → Next → Next → ℕ → Type 0
AgreesBy n exec (Done left answers last common) next breaks scripts = (left ≤ n) × (exec ≡ next left answers last common)
AgreesBy n exec (Broken left answers last common) next breaks scripts = (left ≤ n) × IsSome scripts × (exec ≡ breaks left answers last common)
AgreesBy n exec (Late answers) next breaks scripts = IsRunning answers exec
AgreesBy n exec Short next breaks scripts = exec ≡ Unfed

-- the shell does it in this frame, above these
abbrev pub AgreesHere : ℕ → FrameState → List FrameState → ℕ → Lone → Whole → Type 0
AgreesHere k frame frames n exec meaning = AgreesBy n exec meaning (ended k frame frames) (breaking k frame frames) (script_count (frame ∷ frames))

-- where the lines of the newest frame are
abbrev pub at_of : ℕ → FrameState → List FrameState → At
at_of k frame frames = record {
  shell = k;
  sink = newest_sink (frame ∷ frames);
  in_script = is_script frame.kind;
  scripts = script_count (frame ∷ frames);
  depth = length (frame ∷ frames);
  lines = frame.lines;
  outputs = frame_outputs (frame ∷ frames);
  name = innermost_name (frame ∷ frames);
  position = frame.position;
  line = frame.line;
  last = frame.last;
}

abbrev pub phase_of : Option Parted → Phase
phase_of None = Ready
phase_of (Some parted) = GoingOn parted

abbrev pub HasNext : Option Parted → FrameState → Type 0
HasNext None frame = is_over frame ≡ false
HasNext (Some parted) frame = Unit {0}

abbrev pub AgreesAt : ℕ → ℕ → Type 0
AgreesAt k gas = (n : ℕ) (answers : List Reply) (common : Common) (frame : FrameState) (frames : List FrameState) (parted : Option Parted) →
    n < gas → HasNext parted frame →
    AgreesHere k frame frames n (exec k n answers (frame ∷ frames) (phase_of parted) common)
    (lines gas (remainder n answers) (configuration common (at_of k frame frames)) parted)

-- a line of the newest frame knows just what one of these lines knows
script-line : (kind : FrameKind) (frame : FrameState) →
    kind_script_line kind frame ≡ (if is_script kind then Some (record { lines = frame.lines; line = frame.line }) else None)
script-line (Script name command) frame = refl
script-line RunCommands frame = refl
script-line (Tick before after) frame = refl

pub here-is : (k : ℕ) (frame : FrameState) (frames : List FrameState) → here_of (frame ∷ frames) ≡ here_at (at_of k frame frames)
here-is k frame frames = rw (script-line frame.kind frame) refl

pub weaker : (m n : ℕ) (x : Lone) (w : Whole) (next breaks : Next) (scripts : ℕ) → m ≤ n →
    AgreesBy m x w next breaks scripts → AgreesBy n x w next breaks scripts
weaker m n x (Late answers) next breaks scripts le h = h
weaker m n x Short next breaks scripts le h = h
weaker m n x (Done left answers last common) next breaks scripts le h = (omega (arith, h.0), h.1)
weaker m n x (Broken left answers last common) next breaks scripts le h = (omega (arith, h.0), h.1, h.2)

-- if no line is left that costs nothing
pub lines-over : (gas n : ℕ) (answers : List Reply) (common : Common) (at : At) → n < gas → nat_le (length at.lines) at.position ≡ true →
    lines gas (remainder n answers) (configuration common at) None ≡ Done n answers at.last common
lines-over zero n answers common at lt e = absurd (omega arith)
lines-over (suc gas) n answers common at lt e = rw (slice_get_past at.lines at.position (leb-true (length at.lines) at.position e)) refl

pub there : (xs : List Text) (i : ℕ) → nat_le (length xs) i ≡ false → slice_get xs i ≡ Some (get_or xs i [])
there xs i e = slice_get-get_or xs i [] (leb-false (length xs) i e)
