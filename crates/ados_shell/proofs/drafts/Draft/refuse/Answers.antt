use Rattle.std.proofs.Common.{List, ℕ, false, subst}
use Rattle.std.proofs.lemmas.Result.{on_ok_weaker}
use Rattle.ados_find.specs.declared.codes.Codes.{Codes}
use Rattle.ados_machine.specs.Completions.{Answers}
use Rattle.ados_shell.specs.Drafts.{IsApplied, course_of}
use Rattle.ados_shell.proofs.drafts.Draft.refuse.Goals as goal

pub returns : goal.returns
returns c =
    on_ok_weaker c.answer.result
    (λ g.
    let scene = c.args.scene.now in
    let before = c.args.self.now in
    let after = c.answer.new.self in
    let P : List ℕ → Type 0 = λ w. IsApplied scene before after (Answers w c.failed.result false (course_of scene before)) in
    let Q : Codes → Type 0 = λ k. IsApplied scene before after (Answers c.args.word.now k false (course_of scene before)) in
    subst Q c.failed.ensures (subst P c.as_bytes.ensures.value g))
    c.answer.ensures
