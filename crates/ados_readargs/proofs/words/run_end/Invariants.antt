use Rattle.std.proofs.Common.{◌≡◌, ◌+◌, ℕ}
use Rattle.ados_readargs.specs.Words.{run_end, run_end_from}
use Rattle.ados_readargs.proofs.words.run_end.Given as goal

abbrev pub invariant-loop-step : goal.invariant-loop-step
invariant-loop-step l = (n : ℕ) → n + l.step ≡ l.step-end → run_end l.line l.from ≡ run_end_from n l.line l.end
