use Rattle.std.proofs.Common.{◌∙◌, ◌∷◌, refl, ap}
use Rattle.std.proofs.lemmas.Result.{on_ok_weaker}
use Rattle.ados_flow.specs.declared.kinds.FrameKind.TheVariants.{Script}
use Rattle.ados_flow.specs.Frames.{new_frame}
use Rattle.ados_shell.specs.Drafts.{frames_of}
use Rattle.ados_shell.proofs.CompletionLemmas.{begin-goes}
use Rattle.ados_shell.proofs.drafts.Draft.begin_script.Goals as goal

pub returns : goal.returns
returns c =
    let scene = c.args.scene.now in
    let before = c.args.self.now in
    let script = c.args.called in
    on_ok_weaker c.pass.result
    (λ g. begin-goes scene before _ c.pass.new.self c.args.word.now c.args.output script
    (c.in_ok-push.ensures scene.shell.now ∙ ap (λ x. x ∷ frames_of scene before)
    (c.in_ok-frame.ensures ∙ ap (λ w. new_frame (Script script.name w) script.script before.shell.limit c.args.output) c.in_ok-copy.ensures))
    (record { held = refl; limit = refl; codes = refl; printed = refl; reports = refl })
    g)
    c.pass.ensures
