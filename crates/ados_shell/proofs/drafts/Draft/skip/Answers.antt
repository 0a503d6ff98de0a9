use Rattle.std.proofs.Common.{◌∙◌, List, ℕ, false, refl, subst}
use Rattle.std.proofs.lemmas.Result.{on_ok_weaker}
use Rattle.ados_machine.specs.Completions.{Answers}
use Rattle.ados_shell.specs.Completions.{line_after}
use Rattle.ados_shell.specs.Drafts.{IsApplied, course_of, frames_of, here_in}
use Rattle.ados_shell.proofs.CompletionLemmas.{jump-goes}
use Rattle.ados_shell.proofs.StackLemmas.{skipped-is}
use Rattle.ados_shell.proofs.drafts.Draft.skip.Goals as goal

pub returns : goal.returns
returns c =
    let scene = c.args.scene.now in
    let before = c.args.self.now in
    let mid = record before { shell = record before.shell { frames = c.skip.new.self } } in
    let P : List ℕ → Type 0 = λ w. IsApplied scene mid c.answer.new.self (Answers w c.args.codes false (course_of scene mid)) in
    on_ok_weaker c.answer.result
    (λ g. jump-goes scene before mid c.answer.new.self c.args.word.now c.args.codes (line_after c.args.taken (here_in scene before).frame_lines)
    (c.in_ok-skip.ensures ∙ skipped-is c.args.taken (frames_of scene before))
    (record { held = refl; limit = refl; codes = refl; printed = refl; reports = refl })
    (subst P c.as_bytes.ensures.value g))
    c.answer.ensures
