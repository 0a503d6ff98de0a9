use Rattle.ados_check.specs.LeftOut.{is_between}
use Rattle.ados_check.specs.Marks.{marked_if}
use Rattle.ados_check.proofs.ChangeLemmas.{Leaves}
use Rattle.ados_check.proofs.marks.mark_between.Given as goal

abbrev pub invariant-loop-place : goal.invariant-loop-place
invariant-loop-place l = Leaves marked_if (is_between l.place l.to) (is_between l.from l.to) l.initial.script l.script
