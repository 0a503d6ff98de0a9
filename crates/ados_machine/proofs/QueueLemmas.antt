-- Lines that were typed are taken in order: an event takes the first of them, adds one, or leaves all.
use Rattle.std.proofs.Common.{◌≡◌, ◌≢◌, ◌∙◌, sym, ℕ, List, [], ◌∷◌, ◌++◌, take, Bool, true, false, not, ◌&&◌, ◌==◌, Option, Some, None, Ok, Err, refl, ap, append-nil, append_assoc, inl, inr, if◌then◌else◌}
use Rattle.std.proofs.lemmas.Bool.{cases_Bool, cases_eq, ne_eqb}
use Rattle.ados_find.specs.declared.codes.Codes.{Codes}
use Rattle.ados_flow.specs.Frames.{FrameState}
use Rattle.ados_machine.specs.declared.answers.Answer.{Answer as Reply}
use Rattle.ados_machine.specs.declared.events.Event.{Event}
use Rattle.ados_machine.specs.declared.events.Event.TheVariants.{Turn, Answer}
use Rattle.ados_machine.specs.declared.outs.Out.{Out}
use Rattle.ados_machine.specs.declared.refusals.Refusal.{Refusal}
use Rattle.ados_machine.specs.Phases.{Phase, Ready}
use Rattle.ados_machine.specs.Answers.{answered_in}
use Rattle.ados_machine.specs.Breaks.{has_script}
use Rattle.ados_machine.specs.Course.{Course}
use Rattle.ados_machine.specs.Completions.{Completion}
use Rattle.ados_machine.specs.Runs.{resulting_world, IsResponse}
use Rattle.ados_machine.specs.Shells.{ShellState}
use Rattle.ados_machine.specs.Sinks.{newest_sink}
use Rattle.ados_machine.specs.Step.{Response, Refused, Accepted, start, course_without_flag, turning_response, turn_response, answer_response, step_of}
use Rattle.ados_machine.specs.Turning.{Input, Turning, Refuses, Ends, Turned, console_turning, input_turning, turning_in_phase, turning_at_break, flagged_turning, turning_of_completion, ready_turning}
use Rattle.ados_machine.specs.World.{WorldState, numbered_shell, input_of, takes_input, wants_input}
use Rattle.ados_machine.specs.Laws.{is_breakable}
use Rattle.ados_machine.specs.Given.{lines_taken, lines_typed, all_lines_typed, all_lines_taken, TypedLinesAreTakenInOrder}
use Rattle.ados_machine.proofs.StepCases.{of-step}
use Rattle.ados_machine.proofs.TurnCases.{each-turning}

-- a turn takes the first line that waits, if its shell takes a line of its input, and leaves these
abbrev Takes_of : Bool → List (List ℕ) → Turning → Type 0
Takes_of wants queue (Refuses why) = Unit {0}
Takes_of wants queue Ends = queue ≡ (if wants then take 1 queue else []) ++ queue
Takes_of wants queue (Turned now t) = queue ≡ (if wants then take 1 queue else []) ++ now

console-takes : (queue : List (List ℕ)) (is_ended : Bool) (course : Course) → Takes_of true queue (console_turning queue is_ended course)
console-takes [] true course = refl
console-takes [] false course = tt
console-takes (line ∷ rest) is_ended course = refl

input-takes : (queue : List (List ℕ)) (is_ended : Bool) (frames : List FrameState) (by_line : List ℕ → Completion) (by_end : Completion) →
    Takes_of true queue (input_turning queue is_ended frames by_line by_end)
input-takes [] true frames by_line by_end = refl
input-takes [] false frames by_line by_end = tt
input-takes (line ∷ rest) is_ended frames by_line by_end = refl

ready-takes : (input : Input) (frames : List FrameState) (course : Course) → Takes_of (takes_input frames Ready) input.queue (ready_turning input frames course)
ready-takes input [] course = console-takes input.queue input.is_ended course
ready-takes input (frame ∷ frames) course = refl

turning-takes : (input : Input) (frames : List FrameState) (course : Course) (now : Phase) →
    Takes_of (takes_input frames now) input.queue (turning_in_phase input frames course now)
turning-takes input frames course =
    each-turning (λ now. Takes_of (takes_input frames now) input.queue) input frames course (ready-takes input frames course) (λ parted completion. refl)
    (λ asking. input-takes input.queue input.is_ended frames) (λ gathering. input-takes input.queue input.is_ended frames) (λ starting. tt) (λ child. tt) (λ child. tt)

-- a turn that finds the flag in a script takes no line
in_place-takes : (now : Turning) (input : Input) (frames : List FrameState) (course : Course) →
    Takes_of false input.queue (turning_at_break now input frames course)
in_place-takes (Refuses why) input frames course = tt
in_place-takes Ends input frames course = refl
in_place-takes (Turned queue t) input frames course = refl

flagged-takes : (flagged : Bool) (input : Input) (frames : List FrameState) (course : Course) (now : Phase) →
    Takes_of (not (flagged && has_script frames) && takes_input frames now) input.queue (flagged_turning flagged input frames course now)
flagged-takes flagged input frames course now =
    elim (cases_Bool (flagged && has_script frames)) [
      | inl e ↦ rw e (in_place-takes (turning_in_phase input frames course now) input frames course)
      | inr e ↦ rw e (turning-takes input frames course now)
    ]

-- what waited, with what is typed, is what is taken, with what waits then
abbrev Queues : WorldState → Event → Response → Type 0
Queues w event (Refused why) = Unit {0}
Queues w event (Accepted world out items) = w.queue ++ lines_typed event ≡ lines_taken w event ++ world.queue

first-queues : (w : WorldState) (shell : ShellState) (now : Turning) → numbered_shell w 1 ≡ Some shell →
    Takes_of (not (shell.flagged && has_script shell.frames) && takes_input shell.frames shell.phase) w.queue now → Queues w (Turn 1) (turning_response w 1 shell.parts.codes now)
first-queues w shell (Refuses why) is takes = tt
first-queues w shell Ends is takes = append-nil w.queue ∙ (rw (ap is_breakable is, ap wants_input is) takes)
first-queues w shell (Turned queue t) is takes = append-nil w.queue ∙ (rw (ap is_breakable is, ap wants_input is) takes)

other-queues : (w : WorldState) (k : ℕ) (codes : Codes) (now : Turning) → k ≢ 1 → Queues w (Turn k) (turning_response w k codes now)
other-queues w k codes (Refuses why) ne = tt
other-queues w k codes Ends ne = rw (ne_eqb k 1 ne) (append-nil w.queue)
other-queues w k codes (Turned queue t) ne = rw (ne_eqb k 1 ne) (append-nil w.queue)

first-turned : (w : WorldState) (o : Option ShellState) → numbered_shell w 1 ≡ o → Queues w (Turn 1) (turn_response w 1 o)
first-turned w None is = tt
first-turned w (Some shell) is =
    first-queues w shell (flagged_turning shell.flagged (input_of w 1) shell.frames (course_without_flag (start w shell)) shell.phase) is
    (flagged-takes shell.flagged (input_of w 1) shell.frames (course_without_flag (start w shell)) shell.phase)

other-turned : (w : WorldState) (k : ℕ) (o : Option ShellState) → k ≢ 1 → Queues w (Turn k) (turn_response w k o)
other-turned w k None ne = tt
other-turned w k (Some shell) ne = other-queues w k shell.parts.codes (flagged_turning shell.flagged (input_of w k) shell.frames (course_without_flag (start w shell)) shell.phase) ne

turned-queues : (w : WorldState) (k : ℕ) → Queues w (Turn k) (turn_response w k (numbered_shell w k))
turned-queues w k =
    elim (cases_eq k 1) [
      | inl same ↦ rw same (first-turned w (numbered_shell w 1) refl)
      | inr differ ↦ other-turned w k (numbered_shell w k) differ
    ]

replied-queues : (w : WorldState) (k : ℕ) (reply : Reply) (codes : Codes) (frames : List FrameState) (completion : Option Completion) →
    Queues w (Answer k reply) (turning_response w k codes (turning_of_completion (input_of w k) frames completion))
replied-queues w k reply codes frames None = tt
replied-queues w k reply codes frames (Some completion) =
    elim (cases_Bool (k == 1)) [
      | inl e ↦ rw e (append-nil w.queue)
      | inr e ↦ rw e (append-nil w.queue)
    ]

answered-queues : (w : WorldState) (k : ℕ) (reply : Reply) (o : Option ShellState) → Queues w (Answer k reply) (answer_response w k reply o)
answered-queues w k reply None = tt
answered-queues w k reply (Some shell) =
    replied-queues w k reply shell.parts.codes shell.frames (answered_in (newest_sink shell.frames) (start w shell) shell.phase reply)

step-queues : (w : WorldState) (event : Event) → Queues w event (step_of w event)
step-queues w event = of-step w (Queues w) (record {
  refused = λ event why. tt;
  typed = λ line. refl;
  ended = append-nil w.queue;
  turned = λ k shell is. rw is at (turned-queues w k);
  answered = λ k reply shell is. answered-queues w k reply (Some shell);
  broken = λ k kind shell is. append-nil w.queue;
}) event

after-queues : (w : WorldState) (event : Event) (out : Out) (r : Response) → IsResponse event (Ok out) r → Queues w event r →
    w.queue ++ lines_typed event ≡ lines_taken w event ++ (resulting_world w (Ok out) r).queue
after-queues w event out (Refused why) answer queues = absurd answer
after-queues w event out (Accepted world given items) answer queues = queues

kept-world : (w : WorldState) (why : Refusal) (r : Response) → resulting_world w (Err why) r ≡ w
kept-world w why (Refused other) = refl
kept-world w why (Accepted world given items) = refl

pub lines-in-order : TypedLinesAreTakenInOrder
lines-in-order w [] [] last run = rw run (append-nil w.queue)
lines-in-order w [] (out ∷ outs) last run = absurd run
lines-in-order w (event ∷ events) [] last run = absurd run
lines-in-order w (event ∷ events) (Err why ∷ outs) last run =
    lines-in-order w events outs last (rw (kept-world w why (step_of w event)) at run.1)
lines-in-order w (event ∷ events) (Ok out ∷ outs) last run =
    let mid : WorldState = resulting_world w (Ok out) (step_of w event) in
    let typing_response = all_lines_typed events outs in
    let taken = all_lines_taken mid events outs in
    sym (append_assoc w.queue (lines_typed event) typing_response)
    ∙ (ap (λ lines. lines ++ typing_response) (after-queues w event out (step_of w event) run.0 (step-queues w event))
    ∙ (append_assoc (lines_taken w event) mid.queue typing_response
    ∙ (ap (λ lines. lines_taken w event ++ lines) (lines-in-order mid events outs last run.1)
    ∙ sym (append_assoc (lines_taken w event) taken last.queue))))
