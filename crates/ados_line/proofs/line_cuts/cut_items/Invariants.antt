use Rattle.std.proofs.Common.{◌≡◌, ◌+◌, ℕ}
use Rattle.ados_line.specs.Cut.{cut_of, cut_later_items}
use Rattle.ados_line.proofs.line_cuts.cut_items.Given as goal

abbrev pub invariant-loop-step : goal.invariant-loop-step
invariant-loop-step l = (n : ℕ) → n + l.step ≡ l.step-end → cut_of l.line ≡ cut_later_items n l.line l.place l.read
