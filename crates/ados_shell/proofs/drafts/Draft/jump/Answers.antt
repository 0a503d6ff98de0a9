use Rattle.std.proofs.Common.{List, ℕ, false, refl, subst}
use Rattle.std.proofs.lemmas.Result.{on_ok_weaker}
use Rattle.ados_machine.specs.Completions.{Answers}
use Rattle.ados_shell.specs.Drafts.{IsApplied, course_of}
use Rattle.ados_shell.proofs.CompletionLemmas.{jump-goes}
use Rattle.ados_shell.proofs.drafts.Draft.jump.Goals as goal

pub returns : goal.returns
returns c =
    let scene = c.args.scene.now in
    let mid = record c.args.self.now { shell = record c.args.self.now.shell { frames = c.jump_to.new.self } } in
    let P : List ℕ → Type 0 = λ w. IsApplied scene mid c.answer.new.self (Answers w c.args.codes false (course_of scene mid)) in
    on_ok_weaker c.answer.result
    (λ g. jump-goes scene c.args.self.now mid c.answer.new.self c.args.word.now c.args.codes c.args.line c.in_ok-jump_to.ensures
    (record { held = refl; limit = refl; codes = refl; printed = refl; reports = refl })
    (subst P c.as_bytes.ensures.value g))
    c.answer.ensures
