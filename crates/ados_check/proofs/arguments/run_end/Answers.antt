use Rattle.std.proofs.Common.{suc, ◌+◌, ◌-◌, ◌∙◌, length, arith, sym}
use Rattle.ados_check.proofs.ArgumentLemmas.{run-ends, run-goes}
use Rattle.ados_check.proofs.arguments.run_end.Goals as goal

pub returns-in-None : goal.returns-in-None
returns-in-None c =
    let n = length c.args.line.now - (c.loop-step.step + 1) in
    sym (c.loop-step.invariant (suc n) (omega arith) ∙ run-ends n _ _ (sym c.next_end_of_run.ensures ∙ c.in-None.is))

pub loop-step-preserved : goal.loop-step-preserved
loop-step-preserved c = λ n h. c.loop-step.invariant (suc n) (omega arith) ∙ run-goes n _ _ _ (sym c.next_end_of_run.ensures ∙ c.in-Some.is)

pub returns : goal.returns
returns c = sym (c.loop-step.invariant 0 (omega (arith, c.loop-step-test.false)))
