-- The turn of a shell, by what comes next of it.
use Rattle.std.proofs.Common.{◌≡◌, sym, ℕ, List, [], ◌∷◌, ◌++◌, Bool, Option, Some, None, Result, refl, inl, inr, slice_get}
use Rattle.std.proofs.lemmas.Bool.{cases_Bool}
use Rattle.ados_text.specs.Text.{Text}
use Rattle.ados_line.specs.declared.faults.LineFault.{LineFault}
use Rattle.ados_line.specs.declared.lines.Expanded.{Expanded}
use Rattle.ados_line.specs.Expansion.{resume_line}
use Rattle.ados_find.specs.declared.codes.Codes.{Codes}
use Rattle.ados_flow.specs.Frames.{FrameState, is_ended}
use Rattle.ados_machine.specs.declared.events.Event.TheVariants.{Turn}
use Rattle.ados_machine.specs.Phases.{Phase, Ready, GoingOn, Waiting}
use Rattle.ados_machine.specs.Apply.{here_of, turn_of_completion}
use Rattle.ados_machine.specs.Bound.{devices_of_raw, devices_in_phase}
use Rattle.ados_machine.specs.Uses.{devices_reached}
use Rattle.ados_machine.specs.CodeRule.{RuleState, finish}
use Rattle.ados_machine.specs.Completions.{Answers}
use Rattle.ados_machine.specs.Course.{Course}
use Rattle.ados_machine.specs.Items.{TraceItem}
use Rattle.ados_machine.specs.Lines.{expanded_completion, with_variables}
use Rattle.ados_machine.specs.Next.{line_to_take, frames_taken, expansion, expansion_of_line, next_in_phase, frames_in_phase, frames_at, Takes, record_of_items, first_record, recorded}
use Rattle.ados_machine.specs.Shells.{ShellState}
use Rattle.ados_machine.specs.Step.{of_shell, start, course_without_flag, turn_taken, step_of}
use Rattle.ados_machine.specs.Turning.{Input, Turning, Turned, console_turning, turn_of_frame, ready_turning, turning_in_phase}
use Rattle.ados_machine.specs.World.{WorldState, input_of}
use Rattle.ados_machine.proofs.Loops.{runs-not-over}

-- the turn does what comes next, in a course that differs from the one with which it begins only in what it used
pub record Turns (w : WorldState) (k : ℕ) (shell : ShellState) (next : Result Expanded LineFault) : Type 0 where
  pub queue : List Text
  pub used : List Text
  pub used_is : used ≡ devices_in_phase w k shell shell.phase
  pub does : step_of w (Turn k) ≡ turn_taken w k queue (turn_of_completion (expanded_completion next (here_of (frames_at shell)) (record (course_without_flag (start w shell)) { used = used })) (frames_at shell))

-- what a turning does
record TurningDoes (input : Input) (frames : List FrameState) (course : Course) (uses : List Text) (next : Result Expanded LineFault) (turning : Turning) : Type 0 where
  queue : List Text
  used : List Text
  used_is : used ≡ uses
  does : turning ≡ Turned queue (turn_of_completion (expanded_completion next (here_of frames) (record course { used = used })) frames)

console-does : (w : WorldState) (shell : ShellState) (course : Course) (queue : List Text) (is_ended : Bool) (next : Result Expanded LineFault) →
    course ≡ course_without_flag (start w shell) →
    expansion_of_line w shell (slice_get queue 0) ≡ Some next →
    TurningDoes (record { queue = queue; is_ended = is_ended }) [] course (devices_of_raw w shell (slice_get queue 0)) next (console_turning queue is_ended course)
unfolding devices_reached
console-does w shell course [] is_ended next begins is = cc
console-does w shell course (line ∷ rest) is_ended next begins is = record {
  queue = rest;
  used = (with_variables line course).used;
  used_is = rw begins refl;
  does = let same : expansion w shell line ≡ next = cc in rw begins (rw (sym same) refl);
}

frame-does : (w : WorldState) (shell : ShellState) (frame : FrameState) (frames : List FrameState) (course : Course) (input : Input) (line : Option Text) (next : Result Expanded LineFault) →
    course ≡ course_without_flag (start w shell) →
    expansion_of_line w shell line ≡ Some next →
    TurningDoes input (frames_taken (frame ∷ frames)) course (devices_of_raw w shell line) next (Turned input.queue (turn_of_frame frame frames course line))
unfolding devices_reached
frame-does w shell frame frames course input None next begins is = cc
frame-does w shell frame frames course input (Some line) next begins is = record {
  queue = input.queue;
  used = (with_variables line course).used;
  used_is = rw begins refl;
  does = let same : expansion w shell line ≡ next = cc in rw begins (rw (sym same) refl);
}

ready-does : (w : WorldState) (shell : ShellState) (input : Input) (frames : List FrameState) (course : Course) (next : Result Expanded LineFault) →
    course ≡ course_without_flag (start w shell) →
    expansion_of_line w shell (line_to_take frames input.queue) ≡ Some next →
    TurningDoes input (frames_taken frames) course (devices_of_raw w shell (line_to_take frames input.queue)) next (ready_turning input frames course)
ready-does w shell input [] course next begins is = console-does w shell course input.queue input.is_ended next begins is
ready-does w shell input (frame ∷ frames) course next begins is = frame-does w shell frame frames course input (slice_get frame.lines frame.position) next begins is

phase-does : (w : WorldState) (k : ℕ) (shell : ShellState) (now : Phase) (course : Course) (next : Result Expanded LineFault) →
    course ≡ course_without_flag (start w shell) →
    next_in_phase w k shell now ≡ Some next →
    TurningDoes (input_of w k) (frames_in_phase shell now) course (devices_in_phase w k shell now) next (turning_in_phase (input_of w k) shell.frames course now)
phase-does w k shell Ready course next begins is = ready-does w shell (input_of w k) shell.frames course next begins is
phase-does w k shell (GoingOn parted) course next begins is = record { queue = (input_of w k).queue; used = course.used; used_is = rw begins refl; does = let same : resume_line parted.before parted.output parted.after ≡ next = cc in rw (sym same) refl }
phase-does w k shell (Waiting wait) course next begins is = cc

pub turns : (w : WorldState) (k : ℕ) (shell : ShellState) (next : Result Expanded LineFault) → Takes w k shell next → Turns w k shell next
turns w k shell next takes =
    let does = phase-does w k shell shell.phase (course_without_flag (start w shell)) next refl takes.next_is in
    record {
      queue = does.queue;
      used = does.used;
      used_is = does.used_is;
      does = rw (runs-not-over w k shell takes.runs, takes.runs, takes.unbroken, does.does) refl;
    }

-- the items of a command that returned begin with its record
finish-record : (k : ℕ) (word : List ℕ) (answer : Codes) (quits : Bool) (frames : List FrameState) (rule_state : RuleState) (more : List (ℕ × TraceItem)) →
    record_of_items (of_shell k (finish word answer quits frames rule_state).log ++ more) ≡ Some (recorded frames answer rule_state.parts.limit)
finish-record k word answer quits [] rule_state more = refl
finish-record k word answer quits (frame ∷ frames) rule_state more =
    elim (cases_Bool (is_ended quits answer rule_state.parts.limit frame)) [
      | inl e ↦ rw e refl
      | inr e ↦ rw e refl
    ]

pub answer-record : (w : WorldState) (k : ℕ) (queue : List Text) (word : List ℕ) (answer : Codes) (quits : Bool) (course : Course) (frames : List FrameState) →
    first_record (turn_taken w k queue (turn_of_completion (Answers word answer quits course) frames)) ≡ Some (recorded frames answer course.parts.limit)
answer-record w k queue word answer quits course frames = finish-record k word answer quits frames _ _
