use Rattle.std.proofs.Common.{◌≡◌, ◌+◌, ◌++◌, ℕ}
use Rattle.ados_line.specs.Letters.{letters_of, letters_of_items}
use Rattle.ados_line.proofs.letters.read_letters.Given as goal

abbrev pub invariant-loop-step : goal.invariant-loop-step
invariant-loop-step l = (n : ℕ) → n + l.step ≡ l.step-end → letters_of l.line ≡ l.letters.items ++ letters_of_items n l.line l.place
