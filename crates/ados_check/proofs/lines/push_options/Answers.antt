use Rattle.std.proofs.Common.{◌∙◌, subst, sym}
use Rattle.ados_check.specs.LeftOut.{ToldWith}
use Rattle.ados_check.proofs.ErrorLemmas.{stay_again}
use Rattle.ados_check.proofs.LeftOutLemmas.{any_pushed, told_again}
use Rattle.ados_check.proofs.lines.push_options.Goals as goal

pub loop-left_out-preserved : goal.loop-left_out-preserved
loop-left_out-preserved c = (
  λ number. c.in_ok-push_note.ensures.same number ∙ c.loop-left_out.invariant.0 number,
  stay_again _ _ _ c.loop-left_out.invariant.1 c.in_ok-push_note.ensures.so,
  subst (λ b. ToldWith c.args.line b c.args.found.now.items c.push_note.new.found.items) (sym (any_pushed c.loop-left_out.yielded c.in-Some.left_out))
      (told_again _ _ _ _ _ c.loop-left_out.invariant.2 c.in_ok-push_note.ensures.told),
)
