use Rattle.std.proofs.Common.{◌≡◌, ◌++◌, drop}
use Rattle.ados_check.specs.Ticks.{texts_in_ticks, ticked_from}
use Rattle.ados_check.proofs.ticks.texts_in_ticks.Given as goal

abbrev pub invariant-loop-place : goal.invariant-loop-place
invariant-loop-place l = texts_in_ticks l.line ≡ l.texts.items ++ ticked_from l.before l.place (drop l.place l.line)
