-- The laws at the calls: at which turns scripts end at a break (in one event and in a run), and quiet shells are invisible.
use Rattle.std.specs.Prelude.{◌≡◌, ℕ, List, ◌∷◌, Bool, IfOk, Result}
use Rattle.std.specs.List.{list_any}
use Rattle.ados_machine.specs.declared.events.Event.{Event}
use Rattle.ados_machine.specs.declared.outs.EndReport.{EndReport}
use Rattle.ados_machine.specs.declared.outs.Out.{Out}
use Rattle.ados_machine.specs.declared.refusals.Refusal.{Refusal}
use Rattle.ados_machine.specs.World.{WorldState}
use Rattle.ados_machine.specs.Laws.{finds_flag}
use Rattle.ados_machine.specs.Step.{step_of}
use Rattle.ados_machine.specs.Runs.{resulting_world}
use Rattle.ados_machine.specs.Quiet.{IsQuiet, CanBeTakenOut}

-- one of these reports is that of a script that was broken
abbrev pub reports_break : List EndReport → Bool
reports_break reports = list_any (λ report. report.broken) reports

-- each accepted event of a run ends scripts at a break exactly when it is a turn that finds the flag of its shell, in which a script runs
abbrev pub BreaksEndScriptsIn : WorldState → List Event → List (Result Out Refusal) → Type 0
BreaksEndScriptsIn w (event ∷ events) (out ∷ outs) =
    IfOk out (λ given. reports_break given.reports ≡ finds_flag w event)
    × BreaksEndScriptsIn (resulting_world w out (step_of w event)) events outs
BreaksEndScriptsIn w _ _ = Unit {0}

-- each shell that is quiet in a run can be taken out of it
abbrev pub QuietShellsAreInvisibleIn : WorldState → List Event → List (Result Out Refusal) → WorldState → Type 0
QuietShellsAreInvisibleIn w events outs last = (j : ℕ) → IsQuiet j w events outs → CanBeTakenOut j w events outs last
