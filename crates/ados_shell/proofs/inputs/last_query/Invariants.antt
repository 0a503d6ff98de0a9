use Rattle.std.proofs.Common.{◌≡◌, ◌+◌, ℕ}
use Rattle.ados_machine.specs.Prompts.{last_query, last_query_from}
use Rattle.ados_shell.proofs.inputs.last_query.Given as goal

abbrev pub invariant-loop-step : goal.invariant-loop-step
invariant-loop-step l = (n : ℕ) → n + l.step ≡ l.step-end → last_query l.args ≡ last_query_from n l.args l.place
