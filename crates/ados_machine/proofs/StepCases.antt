-- The cases of a step, in one place: what holds of each refusal, and of what each kind of event gives, holds of every step.
use Rattle.std.specs.Prelude.{◌≡◌, ℕ, List, [], ◌∷◌, ◌++◌, Bool, true, false, Option, Some, None, length, nat_le, nat_lt, if◌then◌else◌}
use Rattle.std.proofs.Common.{refl}
use Rattle.ados_line.specs.Cut.{line_limit}
use Rattle.ados_machine.specs.declared.answers.Answer.{Answer as Reply}
use Rattle.ados_machine.specs.declared.events.Event.{Event}
use Rattle.ados_machine.specs.declared.events.Event.TheVariants.{Typed, EndOfInput, Turn, Answer, Break}
use Rattle.ados_machine.specs.declared.events.BreakKind.{BreakKind}
use Rattle.ados_machine.specs.declared.refusals.Refusal.{Refusal}
use Rattle.ados_machine.specs.declared.refusals.Refusal.TheVariants.{Over, NoSuchShell, NotReady, QueueFull, LineTooLong}
use Rattle.ados_machine.specs.Shells.{ShellState}
use Rattle.ados_machine.specs.World.{WorldState, numbered_shell, is_over}
use Rattle.ados_machine.specs.Step.{Response, Refused, Accepted, event_out, queue_limit, turn_response, answer_response, break_response, event_response, step_of}

-- what is to be shown of an event and its response: of a refusal, of what is typed, of the end of the input, and of an event of a
-- shell that runs
pub record Cases (w : WorldState) (P : Event → Response → Type 0) : Type 0 where
  pub refused : (event : Event) (why : Refusal) → P event (Refused why)
  pub typed : (line : List ℕ) → P (Typed line) (Accepted (record w { queue = w.queue ++ line ∷ [] }) (event_out [] None []) [])
  pub ended : P EndOfInput (Accepted (record w { input_ended = true }) (event_out [] None []) [])
  pub turned : (k : ℕ) (shell : ShellState) → numbered_shell w k ≡ Some shell → P (Turn k) (turn_response w k (Some shell))
  pub answered : (k : ℕ) (reply : Reply) (shell : ShellState) → numbered_shell w k ≡ Some shell → P (Answer k reply) (answer_response w k reply (Some shell))
  pub broken : (k : ℕ) (kind : BreakKind) (shell : ShellState) → numbered_shell w k ≡ Some shell → P (Break k kind) (break_response w k kind (Some shell))

either : (P : Response → Type 0) (b : Bool) (r s : Response) → P r → P s → P (if b then r else s)
either P true r s there here = there
either P false r s there here = here

of-turn : (w : WorldState) (P : Event → Response → Type 0) → Cases w P → (k : ℕ) (o : Option ShellState) → numbered_shell w k ≡ o → P (Turn k) (turn_response w k o)
of-turn w P cases k None is = cases.refused (Turn k) NoSuchShell
of-turn w P cases k (Some shell) is = cases.turned k shell is

of-answer : (w : WorldState) (P : Event → Response → Type 0) → Cases w P → (k : ℕ) (reply : Reply) (o : Option ShellState) → numbered_shell w k ≡ o →
    P (Answer k reply) (answer_response w k reply o)
of-answer w P cases k reply None is = cases.refused (Answer k reply) NoSuchShell
of-answer w P cases k reply (Some shell) is = cases.answered k reply shell is

of-break : (w : WorldState) (P : Event → Response → Type 0) → Cases w P → (k : ℕ) (kind : BreakKind) (o : Option ShellState) → numbered_shell w k ≡ o →
    P (Break k kind) (break_response w k kind o)
of-break w P cases k kind None is = cases.refused (Break k kind) NoSuchShell
of-break w P cases k kind (Some shell) is = cases.broken k kind shell is

of-event : (w : WorldState) (P : Event → Response → Type 0) → Cases w P → (event : Event) → P event (event_response w event)
of-event w P cases (Typed line) =
    either (P (Typed line)) w.input_ended (Refused NotReady) _ (cases.refused (Typed line) NotReady)
    (either (P (Typed line)) (nat_le queue_limit (length w.queue)) (Refused QueueFull) _ (cases.refused (Typed line) QueueFull)
    (either (P (Typed line)) (nat_lt line_limit (length line)) (Refused LineTooLong) _ (cases.refused (Typed line) LineTooLong) (cases.typed line)))
of-event w P cases EndOfInput =
    either (P EndOfInput) w.input_ended (Refused NotReady) _ (cases.refused EndOfInput NotReady) cases.ended
of-event w P cases (Turn k) = of-turn w P cases k (numbered_shell w k) refl
of-event w P cases (Answer k reply) = of-answer w P cases k reply (numbered_shell w k) refl
of-event w P cases (Break k kind) = of-break w P cases k kind (numbered_shell w k) refl

pub of-step : (w : WorldState) (P : Event → Response → Type 0) → Cases w P → (event : Event) → P event (step_of w event)
of-step w P cases event = either (P event) (is_over w) (Refused Over) (event_response w event) (cases.refused event Over) (of-event w P cases event)
