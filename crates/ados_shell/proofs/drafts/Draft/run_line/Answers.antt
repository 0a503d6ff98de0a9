use Rattle.std.proofs.lemmas.Result.{on_ok_weaker}
use Rattle.ados_shell.proofs.EndLemmas.{concluded}
use Rattle.ados_shell.proofs.drafts.Draft.run_line.Goals as goal

pub returns : goal.returns
returns c =
    on_ok_weaker c.conclude.result
    (λ g. concluded c.args.scene.now c.args.self.now c.execute-ended.new.self c.conclude.new.self c.args.line.now.command c.execute-ended.result _ c.execute-ended.ensures g)
    c.conclude.ensures
