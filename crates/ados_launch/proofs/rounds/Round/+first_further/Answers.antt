use Rattle.std.proofs.Common.{◌≡◌, ◌∙◌, Some, None, rules, sym}
use Rattle.ados_machine.specs.InUse.{has_request}
use Rattle.ados_world.specs.Due.{first_number}
use Rattle.ados_world.proofs.FirstLemmas.{first-here, first-later, first-nowhere}
use Rattle.ados_launch.specs.Rounds.{is_further_due}
use Rattle.ados_launch.proofs.Stages.{further-asks}
use Rattle.ados_launch.proofs.rounds.Round.+first_further.Goals as goal

pub returns-in_err-number-clause-number : goal.returns-in_err-number-clause-number
returns-in_err-number-clause-number t c =
    let w = c.args.world.now in
    let answered = c.args.self.now.answered in
    let none : first_number c.args.from (has_request w) ≡ None = search rules in
    let given : c.from_residual.result ≡ None = search rules in
    given ∙ sym (first-nowhere (is_further_due w answered) (has_request w) c.args.from (λ k. further-asks w answered k) none)

pub returns-then-is_further_due-clause-number : goal.returns-then-is_further_due-clause-number
returns-then-is_further_due-clause-number t c =
    let w = c.args.world.now in
    let answered = c.args.self.now.answered in
    let some : first_number c.args.from (has_request w) ≡ Some c.in_ok-number.number = search rules in
    sym (first-here (is_further_due w answered) (has_request w) c.args.from c.in_ok-number.number c.requires (λ k. further-asks w answered k) some
    (sym c.is_further_due.ensures ∙ c.if-is_further_due.true))

pub returns-else-is_further_due-clause-number : goal.returns-else-is_further_due-clause-number
returns-else-is_further_due-clause-number t c =
    let w = c.args.world.now in
    let answered = c.args.self.now.answered in
    let some : first_number c.args.from (has_request w) ≡ Some c.in_ok-number.number = search rules in
    c.first_further.ensures.number
    ∙ sym (first-later (is_further_due w answered) (has_request w) c.args.from c.in_ok-number.number c.requires (λ k. further-asks w answered k) some
    (sym c.is_further_due.ensures ∙ c.if-is_further_due.false))
