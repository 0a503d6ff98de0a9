use Rattle.std.proofs.Common.{◌∙◌, refl, sym}
use Rattle.ados_shell.specs.declared.turnings.TurnKind.TheVariants.{NotReady, Goes}
use Rattle.ados_shell.specs.Turnings.{IsTurning, TurnMayFailToAllocate, waiting_input}
use Rattle.ados_shell.proofs.BreakLemmas.{on_err, refuses-at_break, takes-at_break}
use Rattle.ados_shell.proofs.drafts.Draft.broken_turn.Goals as goal

pub returns-in_err-break_off-clause-memory : goal.returns-in_err-break_off-clause-memory
returns-in_err-break_off-clause-memory c = on_err c.from_residual.result (λ queue first.
    let input = waiting_input c.args.input.now queue in
    takes-at_break TurnMayFailToAllocate c.args.scene.now input c.requires (sym (c.can_take.ensures input (c.has_lines.ensures queue first)) ∙ c.if-can_take.true) tt)

pub returns-in_ok-break_off-clause-turn : goal.returns-in_ok-break_off-clause-turn
returns-in_ok-break_off-clause-turn c = λ queue first.
    let input = waiting_input c.args.input.now queue in
    takes-at_break (IsTurning c.args.scene.now queue Goes c.break_off.new.self) c.args.scene.now input c.requires (sym (c.can_take.ensures input (c.has_lines.ensures queue first)) ∙ c.if-can_take.true)
    (refl, c.in_ok-break_off.ensures)

pub returns-else-can_take-clause-turn : goal.returns-else-can_take-clause-turn
returns-else-can_take-clause-turn c = λ queue first.
    let input = waiting_input c.args.input.now queue in
    refuses-at_break (IsTurning c.args.scene.now queue NotReady c.args.self.now) c.args.scene.now input c.requires (sym (c.can_take.ensures input (c.has_lines.ensures queue first)) ∙ c.if-can_take.false) refl
