use Rattle.std.proofs.Common.{◌∙◌, ◌∷◌, [], List, None, ap, refl, reverse}
use Rattle.std.proofs.lemmas.List.{reverse-append}
use Rattle.std.proofs.lemmas.Result.{on_ok_weaker}
use Rattle.ados_text.specs.Text.{Bytes}
use Rattle.ados_flow.specs.Frames.{new_frame}
use Rattle.ados_flow.specs.declared.kinds.FrameKind.TheVariants.{Tick}
use Rattle.ados_shell.specs.Drafts.{course_of, frames_of}
use Rattle.ados_shell.proofs.CompletionLemmas.{tick-goes}
use Rattle.ados_shell.proofs.drafts.Draft.begin_tick.Goals as goal

pub returns : goal.returns
returns c =
    let scene = c.args.scene.now in
    let before = c.args.self.now in
    on_ok_weaker c.push-2.result
    (λ g. tick-goes scene before _ c.args.tick.before c.args.tick.command c.args.tick.after
    (g scene.shell.now ∙ ap (λ x. x ∷ frames_of scene before)
    (c.in_ok-frame.ensures ∙ ap (λ s. new_frame (Tick c.args.tick.before c.args.tick.after) s before.shell.limit None) c.in_ok-script.ensures))
    refl
    (ap (λ k. record (course_of scene before) { kept = k })
    (ap reverse c.in_ok-push.ensures.items ∙ reverse-append c.in_ok-kept.kept.items (c.from_vec.result ∷ [])
    ∙ ap (λ (output : Bytes). output ∷ reverse c.in_ok-kept.kept.items) (c.from_vec.ensures ∙ c.new-2.ensures.items)
    ∙ ap (λ (k : List Bytes). [] ∷ k) c.in_ok-kept.ensures))
    refl)
    c.push-2.ensures
