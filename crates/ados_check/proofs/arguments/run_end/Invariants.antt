use Rattle.std.proofs.Common.{◌≡◌, ◌+◌, ℕ}
use Rattle.ados_check.specs.Arguments.{run_end, run_search}
use Rattle.ados_check.proofs.arguments.run_end.Given as goal

abbrev pub invariant-loop-step : goal.invariant-loop-step
invariant-loop-step l = (n : ℕ) → n + l.step ≡ l.step-end → run_end l.line l.place ≡ run_search n l.line l.end
