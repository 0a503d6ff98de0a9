use Rattle.ados_machine.specs.Lines.{arriving_completion}
use Rattle.ados_shell.proofs.EndLemmas.{input-ends}
use Rattle.ados_shell.proofs.drafts.Draft.change_directory.Goals as goal

pub returns : goal.returns
returns c =
    let line = c.args.line.now in
    input-ends c.args.scene.now c.args.self.now c.read_own.new.self c.arrive.new.self line.command (λ here lines course. arriving_completion c.args.place line here course) c.in_ok-read_own.field-0 line.input
    c.arrive.result c.as_ref.ensures.value c.in_ok-read_own.ensures c.arrive.ensures
