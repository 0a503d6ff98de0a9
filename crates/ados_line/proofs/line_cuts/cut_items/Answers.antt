use Rattle.std.proofs.Common.{suc, ◌-◌, length, arith, sym, inr}
use Rattle.std.proofs.lemmas.Result.{err_from_is_err_and}
use Rattle.ados_line.specs.Cut.{cut_later_items}
use Rattle.ados_line.proofs.CutLemmas.{cut-onward, cut-done, cut-fault}
use Rattle.ados_line.proofs.line_cuts.cut_items.Goals as goal

pub returns-in_err-to : goal.returns-in_err-to
returns-in_err-to c =
    let n = length c.args.line.now - c.loop-step.step in
    let p = err_from_is_err_and c.from_residual.result c.from_residual.ensures.1 in
    rw (p.1, p.2) (cut-fault (cut_later_items n c.args.line.now) _ _ _ c.loop-step.read (c.in_err-to.ensures (cut_later_items n c.args.line.now))
    (c.loop-step.invariant (suc n) (omega arith)))

pub returns-in-Done : goal.returns-in-Done
returns-in-Done c =
    let n = length c.args.line.now - c.loop-step.step in
    cut-done (cut_later_items n c.args.line.now) _ _ _ _ (c.in_ok-to.ensures (cut_later_items n c.args.line.now)) c.in-Done.is
    (c.loop-step.invariant (suc n) (omega arith))

pub loop-step-preserved : goal.loop-step-preserved
loop-step-preserved c = λ n h.
    cut-onward (cut_later_items n c.args.line.now) _ _ _ _ _ (c.in_ok-to.ensures (cut_later_items n c.args.line.now)) c.in-Onward.is
    (c.loop-step.invariant (suc n) (omega arith))

pub returns : goal.returns
returns c = inr (sym (c.loop-step.invariant 0 (omega (arith, c.loop-step-test.false))))
