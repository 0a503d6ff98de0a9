use Rattle.std.proofs.Common.{◌∙◌}
use Rattle.ados_check.proofs.look.Look.push_problems.Goals as goal

pub loop-place-preserved : goal.loop-place-preserved
loop-place-preserved c =
    let look = c.args.self.now in (
      λ number. c.in_ok-push_sound-2.ensures.same number ∙ (c.in_ok-push_sound.ensures.same number ∙ c.loop-place.invariant.0 number),
      λ are.
          c.in_ok-push_sound-2.ensures.so look.dialect look.written.now
          (c.in_ok-push_sound.ensures.so look.dialect look.written.now (c.loop-place.invariant.1 are) c.block_problem-of_block.ensures)
          c.in_ok-of_line.ensures,
      λ number is. c.in_ok-push_sound-2.ensures.told number (c.in_ok-push_sound.ensures.told number (c.loop-place.invariant.2 number is)),
    )
