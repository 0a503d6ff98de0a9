use Rattle.std.proofs.Common.{◌∙◌, sym}
use Rattle.ados_machine.specs.Course.{uses_of}
use Rattle.ados_shell.specs.Drafts.{course_of}
use Rattle.ados_shell.proofs.drafts.Draft.uses_for.Goals as goal

pub returns-else-reads_shells : goal.returns-else-reads_shells
returns-else-reads_shells c = λ shared script_line args view.
    let ignores = c.reads_shells.ensures.ignores c.if-reads_shells.false shared script_line args view view.names in
    ignores c.new.result ∙ sym (ignores (uses_of (course_of c.args.scene.now c.args.self.now).seen))
