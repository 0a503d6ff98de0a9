use Rattle.std.proofs.Common.{◌≡◌, length}
use Rattle.ados_flow.specs.Gathering.{before_plus}
use Rattle.ados_flow.proofs.gathering.before_plus.Given as goal

abbrev pub invariant-loop-last : goal.invariant-loop-last
invariant-loop-last l = before_plus l.text ≡ before_plus l.fn.text

abbrev pub decreases-loop-last : goal.decreases-loop-last
decreases-loop-last l = length l.text
