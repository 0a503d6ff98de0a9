use Rattle.std.proofs.Common.{◌≡◌, ℕ, ◌<◌, ◌||◌}
use Rattle.ados_pattern.specs.Table.{is_set, leads}
use Rattle.ados_pattern.proofs.words.led_to.Given as goal

abbrev pub invariant-loop-left : goal.invariant-loop-left
invariant-loop-left l = (b : ℕ) → b < 64 → (is_set l.word b || leads l.left l.group l.rest b) ≡ leads l.middles l.group l.rest b

abbrev pub decreases-loop-left : goal.decreases-loop-left
decreases-loop-left l = l.left
