-- The laws at the call of one event.
use Rattle.std.proofs.Common.{◌≡◌, ℕ, true, Ok, refl}
use Rattle.ados_machine.specs.declared.events.Event.{Event}
use Rattle.ados_machine.specs.declared.outs.Out.{Out}
use Rattle.ados_machine.specs.Given.{request_after_event}
use Rattle.ados_machine.specs.InUse.{has_request, resident_name_of, outputs_held, runs_program}
use Rattle.ados_machine.specs.FrameEnds.{IsSane}
use Rattle.ados_machine.specs.World.{WorldState}
use Rattle.ados_machine.specs.Step.{Response, Refused, Accepted, step_of}
use Rattle.ados_machine.specs.Runs.{IsResponse, resulting_world}
use Rattle.ados_machine.specs.Starts.{FailedStart}
use Rattle.ados_machine.proofs.GivenLemmas.{events-give}
use Rattle.ados_machine.proofs.Starts.{failed-starts}
use Rattle.ados_machine.proofs.UseLemmas.{entries-stay}
use Rattle.ados_machine.proofs.OutputLemmas.{outputs-stay}

-- a start that has failed
accepted-fails : (w : WorldState) (event : Event) (out : Out) (r : Response) → step_of w event ≡ r → IsResponse event (Ok out) r →
    FailedStart w event (resulting_world w (Ok out) r)
accepted-fails w event out (Refused why) is answer = absurd answer
accepted-fails w event out (Accepted world given items) is answer = failed-starts w event world given items is

pub failed-start : (w : WorldState) (event : Event) (out : Out) → IsResponse event (Ok out) (step_of w event) →
    FailedStart w event (resulting_world w (Ok out) (step_of w event))
failed-start w event out answer = accepted-fails w event out (step_of w event) refl answer

-- what is given as request is what is pending after the event
request-given : (w : WorldState) (event : Event) (out : Out) (r : Response) → step_of w event ≡ r → IsSane w → IsResponse event (Ok out) r →
    out.request ≡ request_after_event (resulting_world w (Ok out) r) event
request-given w event out (Refused why) is sane answer = absurd answer
request-given w event out (Accepted world given items) is sane answer = rw answer (events-give w event world given items sane is)

pub step-gives : (w : WorldState) (event : Event) (out : Out) → IsSane w → IsResponse event (Ok out) (step_of w event) →
    out.request ≡ request_after_event (resulting_world w (Ok out) (step_of w event)) event
step-gives w event out sane answer = request-given w event out (step_of w event) refl sane answer

-- a resident entry stays in use
entry-stays : (w : WorldState) (event : Event) (out : Out) (r : Response) → step_of w event ≡ r → IsResponse event (Ok out) r →
    (k : ℕ) → has_request w k ≡ true → has_request (resulting_world w (Ok out) r) k ≡ true → resident_name_of (resulting_world w (Ok out) r) k ≡ resident_name_of w k
entry-stays w event out (Refused why) is answer k before after = absurd answer
entry-stays w event out (Accepted world given items) is answer k before after = entries-stay w event world given items is k before after

pub step-keeps-entries : (w : WorldState) (event : Event) (out : Out) → IsResponse event (Ok out) (step_of w event) →
    (k : ℕ) → has_request w k ≡ true → has_request (resulting_world w (Ok out) (step_of w event)) k ≡ true → resident_name_of (resulting_world w (Ok out) (step_of w event)) k ≡ resident_name_of w k
step-keeps-entries w event out answer k before after = entry-stays w event out (step_of w event) refl answer k before after

-- the outputs of a shell stay open while its program runs
output-stays : (w : WorldState) (event : Event) (out : Out) (r : Response) → step_of w event ≡ r → IsResponse event (Ok out) r →
    (k : ℕ) → runs_program w k ≡ true → runs_program (resulting_world w (Ok out) r) k ≡ true → outputs_held (resulting_world w (Ok out) r) k ≡ outputs_held w k
output-stays w event out (Refused why) is answer k before after = absurd answer
output-stays w event out (Accepted world given items) is answer k before after = outputs-stay w event world given items is k before after

pub step-keeps-outputs : (w : WorldState) (event : Event) (out : Out) → IsResponse event (Ok out) (step_of w event) →
    (k : ℕ) → runs_program w k ≡ true → runs_program (resulting_world w (Ok out) (step_of w event)) k ≡ true →
    outputs_held (resulting_world w (Ok out) (step_of w event)) k ≡ outputs_held w k
step-keeps-outputs w event out answer k before after = output-stays w event out (step_of w event) refl answer k before after
