use Rattle.std.proofs.Common.{suc, ◌+◌, ◌-◌, ◌∙◌, length, arith, sym}
use Rattle.ados_check.proofs.ArgumentLemmas.{has-none, has-width, no-word, past-word, redirected}
use Rattle.ados_check.proofs.arguments.has_redirection.Goals as goal

pub returns-in-None : goal.returns-in-None
returns-in-None c =
    let n = length c.args.line.now - (c.loop-step.step + 1) in
    sym (c.loop-step.invariant (suc n) (omega arith) ∙ no-word n c.args.line.now c.loop-step.place (sym c.word_at.ensures.value ∙ c.in-None.is))

pub returns-then-sign_width-gt0 : goal.returns-then-sign_width-gt0
returns-then-sign_width-gt0 c =
    let n = length c.args.line.now - (c.loop-step.step + 1) in
    sym (c.loop-step.invariant (suc n) (omega arith) ∙ redirected n c.args.line.now c.loop-step.place _ (sym c.word_at.ensures.value ∙ c.in-Some.is) (has-width _ _ c.sign_width.ensures.value c.if-sign_width-gt0.true))

pub loop-step-preserved : goal.loop-step-preserved
loop-step-preserved c = λ n h.
    c.loop-step.invariant (suc n) (omega arith) ∙ past-word n c.args.line.now c.loop-step.place _ (sym c.word_at.ensures.value ∙ c.in-Some.is) (has-none _ _ c.sign_width.ensures.value c.if-sign_width-gt0.false)

pub returns : goal.returns
returns c = sym (c.loop-step.invariant 0 (omega (arith, c.loop-step-test.false)))
