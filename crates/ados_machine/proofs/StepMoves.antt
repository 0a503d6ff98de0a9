-- A step moves the frames of each shell by what its own trace gets.
use Rattle.std.proofs.Common.{◌≡◌, ℕ, ◌-◌, List, [], Option, Some, None, Result, Ok, Err, ap, inl, inr}
use Rattle.std.specs.Prelude.{option_map}
use Rattle.std.specs.List.{slice_set}
use Rattle.std.proofs.lemmas.Bool.{cases_eq}
use Rattle.ados_find.specs.declared.codes.Codes.{Codes}
use Rattle.ados_machine.specs.declared.answers.Answer.{Answer as Reply}
use Rattle.ados_machine.specs.declared.events.Event.{Event}
use Rattle.ados_machine.specs.declared.events.BreakKind.{BreakKind}
use Rattle.ados_machine.specs.Breaks.{kind_breaks}
use Rattle.ados_machine.specs.declared.outs.Out.{Out}
use Rattle.ados_machine.specs.declared.refusals.Refusal.{Refusal}
use Rattle.ados_machine.specs.Shells.{ShellState}
use Rattle.ados_machine.specs.Turning.{Turning, Refuses, Ends, Turned, flagged_turning, turning_of_answer}
use Rattle.ados_machine.specs.World.{WorldState, numbered_shell, input_of}
use Rattle.ados_machine.specs.Step.{Response, Refused, Accepted, moved_at_turn, start, course_without_flag, turning_response, turn_response, answer_response, break_response, step_of}
use Rattle.ados_machine.specs.Runs.{resulting_world}
use Rattle.ados_machine.specs.Trace.{items_after, own}
use Rattle.ados_machine.specs.Stacks.{stack_of, standing_of}
use Rattle.ados_machine.proofs.Turnings.{TurningGoes, flagged-goes, answering-goes}
use Rattle.ados_machine.proofs.Shells.{found, found-set_same, found-set_other, runs_pos}
use Rattle.ados_machine.proofs.Moves.{Moves, AllSane, carried-moves, stays, broken-moves, turn-moves}
use Rattle.ados_machine.proofs.StepCases.{of-step}

-- an accepted event moves each shell
abbrev pub Leads : WorldState → Response → Type 0
Leads w (Refused why) = Unit {0}
Leads w (Accepted world given items) = (j : ℕ) → Moves j w.shells (own j items) world.shells

-- a shell ends that has no frame
ended-moves : (shells : List (Option ShellState)) (k : ℕ) (shell : ShellState) (j : ℕ) → AllSane shells → found shells k ≡ Some shell →
    shell.frames ≡ [] → Moves j shells [] (slice_set shells (k - 1) None)
ended-moves shells k shell j sane is none =
    elim (cases_eq j k) [
      | inl same ↦ rw same
          (let gone = found-set_same shells k shell None is in
          record { follows = rw (ap (option_map standing_of) is, ap (option_map standing_of) gone) (ap stack_of none); runs = rw gone tt; background = λ ne. rw gone tt; numbered = rw gone tt })
      | inr differ ↦ carried-moves [] j shells (slice_set shells (k - 1) None) sane
          (found-set_other shells k None j differ (runs_pos shells k shell is))
    ]

applied-leads : (w : WorldState) (k : ℕ) (shell : ShellState) (codes : Codes) (turning : Turning) → AllSane w.shells →
    numbered_shell w k ≡ Some shell → TurningGoes shell.parts shell.frames turning → Leads w (turning_response w k codes turning)
applied-leads w k shell codes (Refuses why) sane is goes = tt
applied-leads w k shell codes Ends sane is goes = λ j. ended-moves w.shells k shell j sane is goes
applied-leads w k shell codes (Turned queue t) sane is goes = λ j. turn-moves w.shells k shell (moved_at_turn w t) t j sane is goes

turned-leads : (w : WorldState) (k : ℕ) (o : Option ShellState) → AllSane w.shells → numbered_shell w k ≡ o → Leads w (turn_response w k o)
turned-leads w k None sane is = tt
turned-leads w k (Some shell) sane is =
    applied-leads w k shell shell.parts.codes (flagged_turning shell.flagged (input_of w k) shell.frames (course_without_flag (start w shell)) shell.phase) sane is
    (flagged-goes shell.flagged (input_of w k) shell.frames (course_without_flag (start w shell)) shell.phase (rw is at (sane.each k)))

answered-leads : (w : WorldState) (k : ℕ) (reply : Reply) (o : Option ShellState) → AllSane w.shells → numbered_shell w k ≡ o → Leads w (answer_response w k reply o)
answered-leads w k reply None sane is = tt
answered-leads w k reply (Some shell) sane is =
    applied-leads w k shell shell.parts.codes (turning_of_answer (input_of w k) shell.frames (start w shell) shell.phase reply) sane is
    (answering-goes (input_of w k) shell.frames (start w shell) shell.phase reply (rw is at (sane.each k)))

broken-leads : (w : WorldState) (k : ℕ) (kind : BreakKind) (o : Option ShellState) → AllSane w.shells → Leads w (break_response w k kind o)
broken-leads w k kind None sane = tt
broken-leads w k kind (Some shell) sane = λ j. broken-moves (Some (record { shell = k; breaks = kind_breaks kind })) j w.shells [] w.shells (stays w.shells j sane)

step-leads : (w : WorldState) (event : Event) → AllSane w.shells → Leads w (step_of w event)
step-leads w event sane = of-step w (λ event response. Leads w response) (record {
  refused = λ event why. tt;
  typed = λ line. (λ j. stays w.shells j sane);
  ended = λ j. stays w.shells j sane;
  turned = λ k shell is. turned-leads w k (Some shell) sane is;
  answered = λ k reply shell is. answered-leads w k reply (Some shell) sane is;
  broken = λ k kind shell is. broken-leads w k kind (Some shell) sane;
}) event

after-moves : (w : WorldState) (out : Result Out Refusal) (response : Response) → AllSane w.shells → Leads w response →
    (j : ℕ) → Moves j w.shells (own j (items_after out response)) (resulting_world w out response).shells
after-moves w (Ok out) (Accepted world given items) sane leads j = leads j
after-moves w (Ok out) (Refused why) sane leads j = stays w.shells j sane
after-moves w (Err refusal) (Accepted world given items) sane leads j = stays w.shells j sane
after-moves w (Err refusal) (Refused why) sane leads j = stays w.shells j sane

pub step-moves : (w : WorldState) (event : Event) (out : Result Out Refusal) → AllSane w.shells → (j : ℕ) →
    Moves j w.shells (own j (items_after out (step_of w event))) (resulting_world w out (step_of w event)).shells
step-moves w event out sane j = after-moves w out (step_of w event) sane (step-leads w event sane) j
