use Rattle.std.proofs.Common.{◌∙◌, sym}
use Rattle.std.specs.Option.{option_copied}
use Rattle.ados_machine.specs.Lines.{busy_files}
use Rattle.ados_shell.specs.Drafts.{course_of}
use Rattle.ados_shell.proofs.drafts.Draft.busy_for.Goals as goal

pub returns-else-reads_in_use : goal.returns-else-reads_in_use
returns-else-reads_in_use c = λ script_line args view.
    let shared = (course_of c.args.scene.now c.args.self.now).shared in
    let ignores = c.reads_in_use.ensures.ignores c.if-reads_in_use.false shared script_line args (sym c.dialect.ensures) view in
    ignores c.none.result ∙ sym (ignores (busy_files (option_copied c.args.target) (course_of c.args.scene.now c.args.self.now)))
