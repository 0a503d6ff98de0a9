use Rattle.ados_check.specs.Errors.{AreAlwaysSo}
use Rattle.ados_check.specs.LeftOut.{TellsNone}
use Rattle.ados_check.proofs.SignLemmas.{ToldUpTo}
use Rattle.ados_check.proofs.lines.signs_found.Given as goal

abbrev pub invariant-loop-place : goal.invariant-loop-place
invariant-loop-place l = ToldUpTo l.place l.initial.bytes l.found.items × AreAlwaysSo l.found.items × TellsNone l.found.items
