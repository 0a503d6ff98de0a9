use Rattle.ados_machine.specs.Lines.{calling_completion}
use Rattle.ados_shell.proofs.EndLemmas.{input-ends}
use Rattle.ados_shell.proofs.drafts.Draft.run_script.Goals as goal

pub returns : goal.returns
returns c =
    let line = c.args.line.now in
    input-ends c.args.scene.now c.args.self.now c.read_own.new.self c.call_into.new.self line.command (λ here lines course. calling_completion c.args.place.now line here course) c.in_ok-read_own.field-0 line.input
    c.call_into.result c.as_ref.ensures.value c.in_ok-read_own.ensures c.call_into.ensures
