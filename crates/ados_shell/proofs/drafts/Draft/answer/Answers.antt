use Rattle.std.proofs.Common.{refl}
use Rattle.std.proofs.lemmas.Result.{on_ok_weaker}
use Rattle.ados_shell.proofs.CompletionLemmas.{answer-goes}
use Rattle.ados_shell.proofs.drafts.Draft.answer.Goals as goal

pub returns : goal.returns
returns c =
    on_ok_weaker c.finish.result
    (λ g. answer-goes c.args.scene.now c.args.self.now _ c.finish.new.self c.args.word.now c.args.codes c.args.quits refl refl refl refl refl
    c.in_ok-push_fault.ensures g)
    c.finish.ensures
