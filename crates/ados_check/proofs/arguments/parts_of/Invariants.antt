use Rattle.std.proofs.Common.{◌≡◌, ◌+◌, ◌++◌, ℕ}
use Rattle.ados_check.specs.Arguments.{parts_from, parts_of}
use Rattle.ados_check.proofs.arguments.parts_of.Given as goal

abbrev pub invariant-loop-step : goal.invariant-loop-step
invariant-loop-step l = (n : ℕ) → n + l.step ≡ l.step-end → parts_of l.line ≡ l.parts.items ++ parts_from n l.line l.place
