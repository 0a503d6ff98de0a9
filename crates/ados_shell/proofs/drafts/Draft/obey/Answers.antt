use Rattle.std.proofs.lemmas.Result.{on_ok_weaker}
use Rattle.ados_line.specs.Expansion.{expand_raw_line}
use Rattle.ados_machine.specs.Lines.{expanded_completion, course_variables, with_variables}
use Rattle.ados_shell.specs.Drafts.{course_of}
use Rattle.ados_shell.proofs.UseLemmas.{used-goes}
use Rattle.ados_shell.proofs.drafts.Draft.obey.Goals as goal

pub returns : goal.returns
returns c =
    let scene = c.args.scene.now in
    let before = c.args.self.now in
    let course = course_of scene before in
    let expanded = expand_raw_line course.parts.settings.aliases (course_variables course) c.args.raw.now in
    on_ok_weaker c.work_line.result
    (λ g. used-goes scene before c.use_variables.new.self c.work_line.new.self (λ at further. expanded_completion expanded at further) (with_variables c.args.raw.now course)
    c.in_ok-use_variables.ensures (g expanded c.expanded-expanded.ensures))
    c.work_line.ensures
