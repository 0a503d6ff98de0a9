use Rattle.std.proofs.Common.{◌≡◌, ◌++◌, drop}
use Rattle.ados_check.specs.Ticks.{around, around_from}
use Rattle.ados_check.proofs.ticks.around.Given as goal

abbrev pub invariant-loop-place : goal.invariant-loop-place
invariant-loop-place l = around l.line ≡ l.text.items ++ around_from l.before l.place (drop l.place l.line)
