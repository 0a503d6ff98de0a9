-- Reports are about a break exactly when a turn finds a flag.
use Rattle.std.proofs.Common.{◌≡◌, ◌∙◌, ℕ, zero, suc, List, [], ◌∷◌, length, true, false, Option, Some, None, Result, Ok, Err, refl, sym, ap, inl, inr}
use Rattle.std.specs.Prelude.{IfOk, nat_lt}
use Rattle.std.proofs.lemmas.Bool.{and_parts, cases_Bool}
use Rattle.std.proofs.lemmas.List.{append-nil}
use Rattle.ados_find.specs.declared.codes.Codes.{Codes}
use Rattle.ados_flow.specs.declared.kinds.FrameKind.{FrameKind}
use Rattle.ados_flow.specs.declared.kinds.FrameKind.TheVariants.{Script, RunCommands, Tick}
use Rattle.ados_flow.specs.Frames.{FrameState, is_script, last_line, script_count}
use Rattle.ados_machine.specs.declared.events.Event.{Event}
use Rattle.ados_machine.specs.declared.events.Event.TheVariants.{Typed, EndOfInput, Turn, Answer, Break}
use Rattle.ados_machine.specs.declared.outs.Out.{Out}
use Rattle.ados_machine.specs.declared.refusals.Refusal.{Refusal}
use Rattle.ados_machine.specs.Breaks.{has_script, kept_after_break}
use Rattle.ados_machine.specs.Course.{Course}
use Rattle.ados_machine.specs.Items.{TraceItem, Began, Answered, Ended, Broke, break_item, reports_of}
use Rattle.ados_machine.specs.Laws.{finds_flag, has_break, is_breakable}
use Rattle.ados_machine.specs.Runs.{IsResponse, Runs, resulting_world}
use Rattle.ados_machine.specs.CodeRule.{RuleState, RuleResult, after_break, with_items_first, end_at_break}
use Rattle.ados_machine.specs.Shells.{ShellState}
use Rattle.ados_machine.specs.Step.{Response, Refused, Accepted, turning_response, start, step_of, turn_response, course_without_flag}
use Rattle.ados_machine.specs.Trace.{ends_in}
use Rattle.ados_machine.specs.Turning.{Input, Turning, Refuses, Ends, Turned, turning_at_break, turning_in_phase}
use Rattle.ados_machine.specs.World.{WorldState, input_of, is_over, numbered_shell}
use Rattle.ados_machine.proofs.BreakLemmas.{breaks-end}
use Rattle.ados_machine.proofs.Ends.{reports-hold}
use Rattle.ados_world.specs.Laws.{BreaksEndScriptsIn, reports_break}

-- if no frame ended at a break no end reports one
ends-whole : (items : List (ℕ × TraceItem)) → has_break items ≡ false → reports_break (ends_in items) ≡ false
ends-whole [] e = refl
ends-whole ((k, Began depth kind limit) ∷ items) e = ends-whole items e
ends-whole ((k, Answered depth entry) ∷ items) e = ends-whole items e
ends-whole ((k, Ended depth (Script name command) line codes early) ∷ items) e = ends-whole items e
ends-whole ((k, Ended depth RunCommands line codes early) ∷ items) e = ends-whole items e
ends-whole ((k, Ended depth (Tick before after) line codes early) ∷ items) e = ends-whole items e
ends-whole ((k, Broke depth kind line) ∷ items) e = cc

-- the end of a script at a break is reported
told-first : (k depth : ℕ) (kind : FrameKind) (line : ℕ) (log : List TraceItem) → is_script kind ≡ true →
    reports_break (reports_of k (Broke depth kind line ∷ log)) ≡ true
told-first k depth (Script name command) line log e = refl
told-first k depth RunCommands line log e = cc
told-first k depth (Tick before after) line log e = cc

told-later : (k depth : ℕ) (kind : FrameKind) (line : ℕ) (log : List TraceItem) → reports_break (reports_of k log) ≡ true →
    reports_break (reports_of k (Broke depth kind line ∷ log)) ≡ true
told-later k depth (Script name command) line log e = refl
told-later k depth RunCommands line log e = e
told-later k depth (Tick before after) line log e = e

-- the same if a script runs below a frame
below-told : (k depth : ℕ) (frame : FrameState) (frames : List FrameState) (rule_state : RuleState) (n : ℕ) (further : RuleResult) → nat_lt 0 n ≡ true →
    reports_break (reports_of k further.log) ≡ true →
    reports_break (reports_of k (with_items_first (break_item depth frame ∷ []) (after_break n frame.kind frame.limit further frames rule_state)).log) ≡ true
below-told k depth frame frames rule_state zero further e told = cc
below-told k depth frame frames rule_state (suc n) further e told = told-later k depth frame.kind _ further.log told

-- a break of frames of which one is a script is reported
broken-told : (k : ℕ) (frames : List FrameState) (rule_state : RuleState) → has_script frames ≡ true → reports_break (reports_of k (end_at_break frames rule_state).log) ≡ true
broken-told k [] rule_state e = cc
broken-told k (frame ∷ frames) rule_state e =
    let inner = record rule_state { kept = kept_after_break frame.kind rule_state.kept } in
    elim (cases_Bool (is_script frame.kind)) [
      | inl script ↦ told-first k (suc (length frames)) frame.kind (last_line frame.last) _ script
      | inr other ↦ (let some : has_script frames ≡ true = rw other at e in
          below-told k (suc (length frames)) frame frames rule_state (script_count frames) (end_at_break frames inner) some (broken-told k frames inner some))
    ]

-- so a turn that finds a flag reports it, if frames end
abbrev Tells : Response → Type 0
Tells (Refused why) = Unit {0}
Tells (Accepted world out items) = has_break items ≡ true → reports_break out.reports ≡ true

place-tells : (w : WorldState) (k : ℕ) (codes : Codes) (event : Turning) (input : Input) (frames : List FrameState) (course : Course) →
    has_script frames ≡ true → Tells (turning_response w k codes (turning_at_break event input frames course))
place-tells w k codes (Refuses why) input frames course e = tt
place-tells w k codes Ends input frames course e = λ none. cc
place-tells w k codes (Turned queue t) input frames course e = λ some. broken-told k frames _ e

turn-tells : (w : WorldState) (k : ℕ) (o : Option ShellState) → is_breakable o ≡ true → Tells (turn_response w k o)
turn-tells w k None e = cc
turn-tells w k (Some shell) e =
    let course = course_without_flag (start w shell) in
    rw e
    (place-tells w k shell.parts.codes (turning_in_phase (input_of w k) shell.frames course shell.phase) (input_of w k) shell.frames course
    (and_parts shell.flagged (has_script shell.frames) e).1)

step-tells : (w : WorldState) (k : ℕ) → is_breakable (numbered_shell w k) ≡ true → Tells (step_of w (Turn k))
step-tells w k e =
    elim (cases_Bool (is_over w)) [
      | inl over ↦ rw over tt
      | inr left ↦ rw left (turn-tells w k (numbered_shell w k) e)
    ]

event-tells : (w : WorldState) (event : Event) → finds_flag w event ≡ true → Tells (step_of w event)
event-tells w (Typed line) e = cc
event-tells w EndOfInput e = cc
event-tells w (Turn k) e = step-tells w k e
event-tells w (Answer k reply) e = cc
event-tells w (Break k kind) e = cc

-- the reports of an event are the ends among what it leaves in the trace
reports-are : (w : WorldState) (event : Event) (world : WorldState) (out : Out) (items : List (ℕ × TraceItem)) →
    step_of w event ≡ Accepted world out items → out.reports ≡ ends_in items
reports-are w event world out items is =
    let answer : IsResponse event (Ok out) (step_of w event) = rw is refl in
    let held = reports-hold w (event ∷ []) (Ok out ∷ []) (resulting_world w (Ok out) (step_of w event)) (answer, refl) in
    sym (append-nil out.reports) ∙ (rw is at held) ∙ ap ends_in (append-nil items)

-- an accepted event reports a break exactly when it finds a flag
breaks-told : (w : WorldState) (event : Event) (world : WorldState) (out : Out) (items : List (ℕ × TraceItem)) →
    step_of w event ≡ Accepted world out items → reports_break out.reports ≡ finds_flag w event
breaks-told w event world out items is =
    let ends = breaks-end w event world out items is in
    elim (cases_Bool (finds_flag w event)) [
      | inl found ↦ (let tells : Tells (Accepted world out items) = rw is at (event-tells w event found) in tells (ends ∙ found) ∙ sym found)
      | inr none ↦ ap reports_break (reports-are w event world out items is) ∙ ends-whole items (ends ∙ none) ∙ sym none
    ]

event-told : (w : WorldState) (event : Event) (out : Result Out Refusal) (r : Response) → step_of w event ≡ r → IsResponse event out r →
    IfOk out (λ given. reports_break given.reports ≡ finds_flag w event)
event-told w event (Err why) r is answer = tt
event-told w event (Ok out) (Refused why) is answer = absurd answer
event-told w event (Ok out) (Accepted world given items) is answer = rw answer (breaks-told w event world given items is)

pub step-told : (w : WorldState) (event : Event) (out : Out) → IsResponse event (Ok out) (step_of w event) → reports_break out.reports ≡ finds_flag w event
step-told w event out answer = event-told w event (Ok out) (step_of w event) refl answer

pub breaks-end-in : (w : WorldState) (events : List Event) (outs : List (Result Out Refusal)) (last : WorldState) → Runs w events outs last →
    BreaksEndScriptsIn w events outs
breaks-end-in w [] outs last run = tt
breaks-end-in w (event ∷ events) [] last run = tt
breaks-end-in w (event ∷ events) (out ∷ outs) last run =
    (event-told w event out (step_of w event) refl run.0, breaks-end-in (resulting_world w out (step_of w event)) events outs last run.1)
