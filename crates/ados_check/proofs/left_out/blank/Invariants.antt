use Rattle.ados_check.specs.LeftOut.{is_between, struck}
use Rattle.ados_check.proofs.ChangeLemmas.{Leaves}
use Rattle.ados_check.proofs.left_out.blank.Given as goal

abbrev pub invariant-loop-place : goal.invariant-loop-place
invariant-loop-place l = Leaves struck (is_between l.place l.to) (is_between l.from l.to) l.initial.script l.script
