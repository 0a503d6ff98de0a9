-- How a line that ran alone leaves a world and a launcher.
use Rattle.std.proofs.Common.{◌≡◌, ◌∙◌, ◌⊎◌, ℕ, Bool, List, Option, Some, None, Result, Ok, Err, inl, inr, refl, subst, sym}
use Rattle.std.specs.Prelude.{IfErr, IfSome, OnOk}
use Rattle.ados_text.specs.Text.{Text, Bytes}
use Rattle.ados_machine.specs.declared.answers.Answer.{Answer as Reply}
use Rattle.ados_machine.specs.declared.requests.Request.{Request}
use Rattle.ados_machine.specs.World.{WorldState, pending_of}
use Rattle.ados_launcher.specs.declared.calls.Call.{Call}
use Rattle.ados_launch.specs.declared.alone.SystemEnd.{SystemEnd}
use Rattle.ados_launch.specs.declared.alone.SystemFault.{SystemFault}
use Rattle.ados_launch.specs.Agreement.{Agrees}
use Rattle.ados_launch.specs.Asked.{ListsOf}
use Rattle.ados_launch.specs.Alone.{AgreesAfterFault, AgreesAfterLine, AgreesAfterOpening, AgreesOnceTaken, FitsPending, IsUntaken, StopsAtBytes, StopsAtEvent, LineProgress}

-- the answer that was not taken is one to what its shell waits for
untaken-fits : (w : WorldState) (k : ℕ) (is_full : Bool) (answer : Option Reply) (calls others : List Call) → AgreesOnceTaken w k answer calls → IsUntaken is_full w k answer others → AgreesAfterFault w (Some k) answer calls
untaken-fits w k is_full None calls others agrees untaken = agrees
untaken-fits w k is_full (Some reply) calls others agrees untaken = (fits-by (pending_of w k) untaken, agrees)
  where
    fits-by : (pending : Option Request) → ListsOf is_full pending reply others → FitsPending pending reply
    fits-by None lists = absurd lists
    fits-by (Some request) lists = lists.0

-- by what `system` ensures
pub agrees_ran : (w last : WorldState) (line : Text) (turns : ℕ) (is_full : Bool) (before now : Bytes) (calls calls_now : List Call) (result : Result SystemEnd SystemFault)
    → OnOk result (Agrees last calls_now)
    → IfErr result (λ fault. AgreesAfterOpening last fault.shell fault.answer calls_now)
    → IfErr result (λ fault. IfSome fault.shell (LineProgress w line turns is_full fault last before now calls calls_now))
    → AgreesAfterLine last result calls_now
agrees_ran w last line turns is_full before now calls calls_now (Ok end) ok after fault = ok
agrees_ran w last line turns is_full before now calls calls_now (Err why) ok after fault = by-shell why.shell why.answer after fault refl
  where
    by-shell : (shell : Option ℕ) (answer : Option Reply) → AgreesAfterOpening last shell answer calls_now → IfSome shell (LineProgress w line turns is_full why last before now calls calls_now)
        → why.answer ≡ answer → AgreesAfterFault last shell answer calls_now
    by-shell None answer agrees none is = agrees
    by-shell (Some k) answer agrees some is = by-stop some.stops
      where
        by-stop : StopsAtEvent is_full turns why last k some.others ⊎ StopsAtBytes turns why some.taken some.others → AgreesAfterFault last (Some k) answer calls_now
        by-stop (inl stops) = untaken-fits last k is_full answer calls_now some.others agrees (subst (λ a. IsUntaken is_full last k a some.others) is stops.2)
        by-stop (inr stops) = rw (sym is ∙ stops.3) (rw (sym is ∙ stops.3) at agrees)
