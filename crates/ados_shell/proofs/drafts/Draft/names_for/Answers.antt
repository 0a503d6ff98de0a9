use Rattle.std.proofs.Common.{◌∙◌, sym}
use Rattle.ados_machine.specs.Lines.{shell_names}
use Rattle.ados_shell.specs.Drafts.{course_of}
use Rattle.ados_shell.proofs.drafts.Draft.names_for.Goals as goal

pub returns-else-reads_shells : goal.returns-else-reads_shells
returns-else-reads_shells c = λ shared script_line args view.
    let ignores = c.reads_shells.ensures.ignores c.if-reads_shells.false shared script_line args view in
    ignores c.new.result view.uses ∙ sym (ignores (shell_names c.args.word.now (course_of c.args.scene.now c.args.self.now)) view.uses)
