use Rattle.std.proofs.Common.{Ok, refl, subst}
use Rattle.ados_items.specs.Items.{words_of}
use Rattle.ados_machine.specs.Opening.{line_output}
use Rattle.ados_shell.specs.Drafts.{course_of}
use Rattle.ados_shell.specs.Outputs.{IsOpened}
use Rattle.ados_shell.proofs.EndLemmas.{tested-ends}
use Rattle.ados_shell.proofs.drafts.Draft.test_output.Goals as goal

pub returns : goal.returns
returns c =
    let scene = c.args.scene.now in
    let before = c.args.self.now in
    let line = c.args.line.now in
    let course = course_of scene before in
    tested-ends scene before c.ask_to_start.new.self c.args.entry c.args.program line c.in_ok-open.field-0 (line_output course line.output) c.ask_to_start.result
    (subst (λ o. IsOpened course.shared (Ok c.in_ok-open.field-0) (line_output course o)) c.as_ref.ensures.value c.in_ok-open.ensures)
    (c.ask_to_start.ensures (words_of line.args) refl)
