use Rattle.std.proofs.Common.{◌∙◌, None, ap, subst}
use Rattle.ados_flow.specs.Execute.{script_row}
use Rattle.ados_machine.specs.Lines.{action_completion, called_completion, nameless_view}
use Rattle.ados_shell.specs.Completions.{HasEnded}
use Rattle.ados_shell.specs.Drafts.{course_of, here_in}
use Rattle.ados_shell.proofs.EndLemmas.{output-ends}
use Rattle.ados_shell.proofs.drafts.Draft.call_into.Goals as goal

pub returns : goal.returns
returns c =
    let scene = c.args.scene.now in
    let opened = c.open_own.new.self in
    let line = c.args.line.now in
    let target = c.in_ok-target.target in
    let course = course_of scene opened in
    output-ends scene c.args.self.now opened c.act.new.self line.command (λ here target course. called_completion c.args.place.now line target here course) target line.output
    c.act.result c.as_ref.ensures.value c.in_ok-target.ensures
    (subst (λ a. HasEnded scene opened c.act.new.self line.command c.act.result (action_completion line.command target None a (here_in scene opened) course))
    (c.in_ok-action.ensures ∙ ap (λ o. script_row course.shared (nameless_view o course) line.args c.args.place.now) c.as_ref-2.ensures.value) c.act.ensures)
