use Rattle.std.proofs.Common.{◌∙◌, subst, sym}
use Rattle.ados_machine.specs.NewShells.{run_into}
use Rattle.ados_shell.specs.Completions.{HasEnded}
use Rattle.ados_shell.proofs.EndLemmas.{output-ends}
use Rattle.ados_shell.proofs.TurnLemmas.{else-is}
use Rattle.ados_shell.proofs.drafts.Draft.run_into.Goals as goal

pub returns-else-has_no_command : goal.returns-else-has_no_command
returns-else-has_no_command c =
    let line = c.args.line.now in
    output-ends c.args.scene.now c.args.self.now c.open_own.new.self c.run_commands.new.self line.command (λ here target course. run_into line here target course) c.in_ok-output.output line.output
    c.run_commands.result c.as_ref.ensures.value c.in_ok-output.ensures
    (subst (HasEnded c.args.scene.now c.open_own.new.self c.run_commands.new.self line.command c.run_commands.result) (sym (else-is _ _ _ (sym c.has_no_command.ensures ∙ c.if-has_no_command.false))) c.run_commands.ensures)
