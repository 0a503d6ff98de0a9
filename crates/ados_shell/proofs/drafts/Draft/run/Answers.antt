use Rattle.ados_machine.specs.NewShells.{running_completion}
use Rattle.ados_shell.proofs.EndLemmas.{input-ends}
use Rattle.ados_shell.proofs.drafts.Draft.run.Goals as goal

pub returns : goal.returns
returns c =
    let line = c.args.line.now in
    input-ends c.args.scene.now c.args.self.now c.read_own.new.self c.run_into.new.self line.command (λ here lines course. running_completion line here course) c.in_ok-read_own.field-0 line.input
    c.run_into.result c.as_ref.ensures.value c.in_ok-read_own.ensures c.run_into.ensures
