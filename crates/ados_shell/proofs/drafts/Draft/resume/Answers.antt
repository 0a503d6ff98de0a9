use Rattle.std.proofs.lemmas.Result.{on_ok_weaker}
use Rattle.ados_shell.proofs.EndLemmas.{concluded}
use Rattle.ados_shell.proofs.drafts.Draft.resume.Goals as goal

pub returns-in-Arguments : goal.returns-in-Arguments
returns-in-Arguments c =
    rw c.in-Arguments.is (on_ok_weaker c.conclude.result
    (λ g. concluded c.args.scene.now c.args.self.now c.resume_command-ended.new.self c.conclude.new.self c.in-Arguments.line.command c.resume_command-ended.result _ c.resume_command-ended.ensures g)
    c.conclude.ensures)

pub returns-in-Reply : goal.returns-in-Reply
returns-in-Reply c =
    rw c.in-Reply.is (on_ok_weaker c.conclude-in-Reply.result
    (λ g. concluded c.args.scene.now c.args.self.now c.reply-ended.new.self c.conclude-in-Reply.new.self c.in-Reply.question.word c.reply-ended.result _ c.reply-ended.ensures g)
    c.conclude-in-Reply.ensures)
