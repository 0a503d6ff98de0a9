use Rattle.std.proofs.Common.{◌∙◌}
use Rattle.std.specs.Option.{option_copied}
use Rattle.ados_machine.specs.Lines.{busy_files, shell_names}
use Rattle.ados_shell.specs.Drafts.{course_of, parts_of}
use Rattle.ados_shell.specs.Views.{shell_view}
use Rattle.ados_shell.proofs.drafts.Draft.others_for.Goals as goal

pub returns : goal.returns
returns c = λ script_line args.
    let parts = parts_of c.args.scene.now c.args.self.now in
    let course = course_of c.args.scene.now c.args.self.now in
    let busy = busy_files (option_copied c.args.target) course in
    let names = shell_names c.args.word.now course in
    let shared = course.shared in
    c.in_ok-busy.ensures script_line args (shell_view parts c.in_ok-busy.busy c.in_ok-names.names c.in_ok-uses.uses)
    ∙ c.in_ok-names.ensures shared script_line args (shell_view parts busy c.in_ok-names.names c.in_ok-uses.uses)
    ∙ c.in_ok-uses.ensures shared script_line args (shell_view parts busy names c.in_ok-uses.uses)
