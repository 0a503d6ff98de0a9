use Rattle.std.proofs.Common.{◌≡◌, ◌+◌, ◌++◌, ℕ, false, length}
use Rattle.ados_script.specs.Phrases.{spaced_from}
use Rattle.ados_script.proofs.phrases.spaced_words.Given as goal

abbrev pub invariant-loop-step : goal.invariant-loop-step
invariant-loop-step l = (n : ℕ) → n + l.step ≡ l.step-end → spaced_from (length l.line + 1) l.line false l.from ≡ l.spaced ++ spaced_from n l.line l.runs l.place
