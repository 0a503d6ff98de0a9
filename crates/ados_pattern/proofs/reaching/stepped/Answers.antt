use Rattle.std.proofs.Common.{◌+◌, ◌&&◌, sym, ◌∙◌, ap, arith}
use Rattle.ados_pattern.specs.CharTest.{test_of}
use Rattle.ados_pattern.proofs.Bits.{lt-false, set-zero}
use Rattle.ados_pattern.proofs.Places.{step-more, steps}
use Rattle.ados_pattern.proofs.reaching.stepped.Goals as goal

pub loop-start-init : goal.loop-start-init
loop-start-init c = λ b l. set-zero b ∙ sym (ap (λ x. x && steps (test_of c.args.test) c.args.text.now c.args.starts (b + 1)) (lt-false (b + 1) 1 (omega arith)))

pub loop-start-preserved : goal.loop-start-preserved
loop-start-preserved c = λ b l.
    step-more (test_of c.args.test) c.args.text.now c.args.starts c.loop-start.ends c.before-ends.result c.loop-start.start b c.steps_from.result c.loop-start.auto.start (c.loop-start.invariant b l) (c.before-ends.ensures b l) c.steps_from.ensures
