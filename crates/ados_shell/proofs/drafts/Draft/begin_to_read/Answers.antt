use Rattle.std.proofs.Common.{Err, ap, subst}
use Rattle.std.proofs.lemmas.Result.{on_ok_weaker}
use Rattle.ados_machine.specs.Opening.{line_output}
use Rattle.ados_shell.specs.Drafts.{course_of}
use Rattle.ados_shell.specs.Outputs.{HasOpened}
use Rattle.ados_shell.proofs.CompletionLemmas.{started-refused}
use Rattle.ados_shell.proofs.drafts.Draft.begin_to_read.Goals as goal

pub returns-in_ok-child-in-Err-Refused : goal.returns-in_ok-child-in-Err-Refused
returns-in_ok-child-in-Err-Refused c =
    let scene = c.args.scene.now in
    let before = c.args.self.now in
    let opened = line_output (course_of scene before) c.args.starting.now.output in
    on_ok_weaker c.wait.result
    (λ g. started-refused scene before c.open_own.new.self c.wait.new.self c.args.starting.now c.in_ok-child-in-Err-Refused.child c.next.result c.in-Err-Refused.fault opened
    (subst (λ x. HasOpened scene before c.open_own.new.self c.args.starting.now.output x opened)
    (ap Err c.in-Err-Refused.field-0-is)
    (subst (λ o. HasOpened scene before c.open_own.new.self o (Err c.in-Err-Refused.field-0) (line_output (course_of scene before) o))
    c.as_ref.ensures.value c.in-Err-Refused.ensures))
    c.in_ok-child-in-Err-Refused.ensures c.next.ensures g)
    c.wait.ensures
