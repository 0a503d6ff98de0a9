use Rattle.std.proofs.Common.{◌∙◌, subst}
use Rattle.ados_text.specs.Lines.{lines_of}
use Rattle.ados_check.specs.Errors.{AreSo}
use Rattle.ados_check.proofs.ErrorLemmas.{all_so}
use Rattle.ados_check.proofs.LeftOutLemmas.{each_told}
use Rattle.ados_check.proofs.inspection.inspect.Goals as goal

pub returns-clause-so : goal.returns-clause-so
returns-clause-so c =
    all_so c.args.dialect c.args.bytes.now _
    (λ number. c.in_ok-sort.ensures.same number ∙ (c.in_ok-push_problems.ensures.same number ∙ (c.in_ok-push_idle_directives.ensures.same number ∙ c.in_ok-found.ensures.signs number)))
    (c.in_ok-sort.ensures.so c.args.dialect (lines_of c.args.bytes.now)
    (subst (λ lines. AreSo c.args.dialect lines c.push_problems.new.found.items) (c.as_slice-lines.ensures ∙ c.in_ok-written.ensures)
    (c.in_ok-push_problems.ensures.so
    (c.in_ok-push_idle_directives.ensures.so c.args.dialect c.as_slice-lines.result.now (c.in_ok-found.ensures.so c.args.dialect c.as_slice-lines.result.now)))))

pub returns-clause-left_out : goal.returns-clause-left_out
returns-clause-left_out c =
    each_told c.args.dialect _ c.as_slice-lines.result.now (lines_of c.args.bytes.now) _ _ _ c.new.ensures (c.as_slice-lines.ensures ∙ c.in_ok-written.ensures) c.in_ok-found.ensures.left_out
    (λ number is. c.in_ok-push_problems.ensures.told number (c.in_ok-push_idle_directives.ensures.told number is)) c.in_ok-sort.ensures.told
