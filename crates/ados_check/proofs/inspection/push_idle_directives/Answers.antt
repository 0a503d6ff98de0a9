use Rattle.std.proofs.Common.{◌∙◌, false}
use Rattle.ados_check.proofs.ErrorLemmas.{stay_again}
use Rattle.ados_check.proofs.LeftOutLemmas.{stays_again, told_stays}
use Rattle.ados_check.proofs.inspection.push_idle_directives.Goals as goal
use Rattle.ados_check.proofs.inspection.push_idle_directives.Goals.{then-is_directive+in_ok-push_note, else-is_directive}

pub loop-place-preserved : goal.loop-place-preserved
loop-place-preserved c =
    let i = c.loop-place.invariant in
    elim c.if-is_directive.branch [
      | then-is_directive+in_ok-push_note w ↦ rw w.found-is (
        λ number. w.in_ok-push_note.ensures.same number ∙ i.0 number,
        stay_again _ _ _ i.1 w.in_ok-push_note.ensures.so,
        stays_again _ _ _ i.2 (told_stays _ false _ _ w.in_ok-push_note.ensures.told),
      )
      | else-is_directive w ↦ rw w.found-is i
    ]
