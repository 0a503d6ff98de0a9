use Rattle.std.proofs.Common.{suc, ◌+◌, ◌-◌, ◌∙◌, length, arith, sym, append-nil}
use Rattle.ados_check.proofs.ArgumentLemmas.{parts-end, parts-pushed}
use Rattle.ados_check.proofs.arguments.parts_of.Goals as goal

pub returns-in_default : goal.returns-in_default
returns-in_default c =
    let n = length c.args.line.now - (c.loop-step.step + 1) in
    parts-end _ _ n c.args.line.now c.loop-step.place (c.loop-step.invariant (suc n) (omega arith)) (sym c.part_at.ensures ∙ c.in_default.is)

pub loop-step-preserved : goal.loop-step-preserved
loop-step-preserved c = λ n h.
    parts-pushed _ _ _ n c.args.line.now c.loop-step.place c.in-Some.part _ (c.loop-step.invariant (suc n) (omega arith))
    (sym c.part_at.ensures ∙ c.in-Some.is) c.in_ok-push.ensures.items c.end-place.ensures

pub returns : goal.returns
returns c = sym (c.loop-step.invariant 0 (omega (arith, c.loop-step-test.false)) ∙ append-nil _)
