use Rattle.std.proofs.Common.{◌∙◌, sym}
use Rattle.std.proofs.lemmas.Result.{on_ok_weaker}
use Rattle.ados_shell.proofs.CompletionLemmas.{call-begins, call-refused}
use Rattle.ados_shell.proofs.drafts.Draft.call.Goals as goal

pub returns-then-is_full : goal.returns-then-is_full
returns-then-is_full c =
    on_ok_weaker c.refuse.result
    (λ g. call-refused c.args.scene.now c.args.self.now c.refuse.new.self c.args.word.now c.args.output c.args.script
    (sym c.is_full.ensures ∙ c.if-is_full.true) g)
    c.refuse.ensures

pub returns-else-is_full : goal.returns-else-is_full
returns-else-is_full c =
    on_ok_weaker c.begin_script.result
    (λ g. call-begins c.args.scene.now c.args.self.now c.begin_script.new.self c.args.word.now c.args.output c.args.script
    (sym c.is_full.ensures ∙ c.if-is_full.false) g)
    c.begin_script.ensures
