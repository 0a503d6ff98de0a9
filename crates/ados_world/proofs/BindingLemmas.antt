-- An accepted event binds only what it used.
use Rattle.std.proofs.Common.{◌≡◌, ℕ, Option, Some, None, Ok, refl}
use Rattle.ados_find.specs.declared.codes.Codes.{Codes}
use Rattle.ados_machine.specs.declared.answers.Answer.{Answer as Reply}
use Rattle.ados_machine.specs.declared.events.Event.{Event}
use Rattle.ados_machine.specs.declared.events.Event.TheVariants.{Turn, Answer}
use Rattle.ados_machine.specs.declared.outs.Out.{Out}
use Rattle.ados_machine.specs.Runs.{IsResponse, resulting_world}
use Rattle.ados_machine.specs.Shells.{ShellState}
use Rattle.ados_machine.specs.Step.{Response, Refused, Accepted, answer_response, turning_response, start, step_of, turn_response, course_without_flag}
use Rattle.ados_machine.specs.Turning.{Turning, Refuses, Ends, Turned, turning_of_answer, flagged_turning}
use Rattle.ados_machine.specs.World.{WorldState, input_of, numbered_shell}
use Rattle.ados_machine.proofs.BindingLemmas.{binds-only}
use Rattle.ados_world.specs.Binding.{BindsOnlyWhatItUsed, TurningBinds}
use Rattle.ados_machine.proofs.StepCases.{of-step}

-- the same of an answer that accepts it
abbrev BindsBy : WorldState → Event → Response → Type 0
BindsBy w event (Refused why) = Unit {0}
BindsBy w event (Accepted world out items) = BindsOnlyWhatItUsed w event world

abbrev PlaceBinds : Turning → Response → Type 0
PlaceBinds turning (Refused why) = Unit {0}
PlaceBinds turning (Accepted world out items) = TurningBinds turning world.shared

applied-binds : (w : WorldState) (k : ℕ) (codes : Codes) (turning : Turning) → PlaceBinds turning (turning_response w k codes turning)
applied-binds w k codes (Refuses why) = tt
applied-binds w k codes Ends = tt
applied-binds w k codes (Turned queue turn_response) = binds-only w _ k queue turn_response _ _ refl

by-turn : (w : WorldState) (k : ℕ) (shell : ShellState) (r : Response) → numbered_shell w k ≡ Some shell
    → PlaceBinds (flagged_turning shell.flagged (input_of w k) shell.frames (course_without_flag (start w shell)) shell.phase) r → BindsBy w (Turn k) r
by-turn w k shell (Refused why) here binds = tt
by-turn w k shell (Accepted world out items) here binds = rw here binds

by-answer : (w : WorldState) (k : ℕ) (reply : Reply) (shell : ShellState) (r : Response) → numbered_shell w k ≡ Some shell
    → PlaceBinds (turning_of_answer (input_of w k) shell.frames (start w shell) shell.phase reply) r → BindsBy w (Answer k reply) r
by-answer w k reply shell (Refused why) here binds = tt
by-answer w k reply shell (Accepted world out items) here binds = rw here binds

turned-binds : (w : WorldState) (k : ℕ) (o : Option ShellState) → numbered_shell w k ≡ o → BindsBy w (Turn k) (turn_response w k o)
turned-binds w k None here = tt
turned-binds w k (Some shell) here =
    let turning = flagged_turning shell.flagged (input_of w k) shell.frames (course_without_flag (start w shell)) shell.phase in
    by-turn w k shell (turning_response w k shell.parts.codes turning) here (applied-binds w k shell.parts.codes turning)

answered-binds : (w : WorldState) (k : ℕ) (reply : Reply) (o : Option ShellState) → numbered_shell w k ≡ o → BindsBy w (Answer k reply) (answer_response w k reply o)
answered-binds w k reply None here = tt
answered-binds w k reply (Some shell) here =
    let turning = turning_of_answer (input_of w k) shell.frames (start w shell) shell.phase reply in
    by-answer w k reply shell (turning_response w k shell.parts.codes turning) here (applied-binds w k shell.parts.codes turning)

step-by : (w : WorldState) (event : Event) → BindsBy w event (step_of w event)
step-by w event = of-step w (BindsBy w) (record {
  refused = λ event why. tt;
  typed = λ line. refl;
  ended = refl;
  turned = λ k shell is. turned-binds w k (Some shell) is;
  answered = λ k reply shell is. answered-binds w k reply (Some shell) is;
  broken = λ k kind shell is. refl;
}) event

accepted-binds : (w : WorldState) (event : Event) (out : Out) (r : Response) → IsResponse event (Ok out) r → BindsBy w event r
    → BindsOnlyWhatItUsed w event (resulting_world w (Ok out) r)
accepted-binds w event out (Refused why) answer binds = absurd answer
accepted-binds w event out (Accepted world given items) answer binds = binds

pub step-binds : (w : WorldState) (event : Event) (out : Out) → IsResponse event (Ok out) (step_of w event)
    → BindsOnlyWhatItUsed w event (resulting_world w (Ok out) (step_of w event))
step-binds w event out answer = accepted-binds w event out (step_of w event) answer (step-by w event)
