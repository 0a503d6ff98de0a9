use Rattle.std.proofs.Common.{◌∙◌, ap}
use Rattle.std.specs.Option.{option_map}
use Rattle.ados_flow.specs.Actions.{action_effect}
use Rattle.ados_machine.specs.Lines.{action_in, work_completion}
use Rattle.ados_shell.specs.Drafts.{course_of, here_in}
use Rattle.ados_shell.proofs.EndLemmas.{output-ends, work-ends}
use Rattle.ados_shell.proofs.drafts.Draft.command.Goals as goal

pub returns : goal.returns
returns c =
    let scene = c.args.scene.now in
    let opened = c.open_own.new.self in
    let line = c.args.line.now in
    let lines = option_map (λ l. l.now) c.args.input in
    output-ends scene c.args.self.now opened c.act.new.self line.command (λ here target course. work_completion c.args.builtin line target lines here course) c.in_ok-target.target line.output
    c.act.result c.as_ref.ensures.value c.in_ok-target.ensures
    (work-ends scene opened c.action.new.self c.act.new.self c.args.builtin line c.in_ok-target.target lines _ c.act.result c.in_ok-action.ensures.used
    (ap (λ course. action_effect course.shared c.in_ok-action.action) c.in_ok-action.ensures.used.course_is ∙ c.in_ok-action.ensures.action
    ∙ ap (λ o. action_in c.args.builtin line o (here_in scene opened) (course_of scene opened)) c.as_ref-2.ensures.value)
    c.act.ensures)
