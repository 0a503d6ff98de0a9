use Rattle.std.proofs.Common.{◌≡◌, ◌+◌, ℕ}
use Rattle.ados_check.specs.Arguments.{has_redirection, redirection_search}
use Rattle.ados_check.proofs.arguments.has_redirection.Given as goal

abbrev pub invariant-loop-step : goal.invariant-loop-step
invariant-loop-step l = (n : ℕ) → n + l.step ≡ l.step-end → has_redirection l.line ≡ redirection_search n l.line l.place
