use Rattle.std.proofs.Common.{◌∙◌, sym}
use Rattle.ados_subst.proofs.SlotLemmas.{slots-more, slots-past}
use Rattle.ados_subst.proofs.slots.Slots.filled.Goals as goal
use Rattle.ados_subst.proofs.slots.Slots.filled.Goals.{in-Some+in_ok-new+in_ok-push, in_default}

pub loop-place-preserved : goal.loop-place-preserved
loop-place-preserved c =
    let options = c.options-options.result.now in
    let args = c.args.args.now in
    elim c.match-branch-3.branch [
      | in-Some+in_ok-new+in_ok-push w ↦
          rw w.items-is
          (slots-more _ _ _ _ options args _ _ w.in-Some.arg c.loop-place-test.true w.index-options-place.is
          (sym c.in_ok-arg.ensures ∙ w.in-Some.is) w.in_ok-new.ensures w.in_ok-push.ensures.items
          c.loop-place.invariant)
      | in_default w ↦
          rw w.items-is
          (slots-past _ _ options args _ (sym c.in_ok-arg.ensures ∙ w.in_default.is) c.loop-place.invariant)
    ]
