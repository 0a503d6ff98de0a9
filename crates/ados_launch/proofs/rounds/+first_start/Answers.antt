use Rattle.std.proofs.Common.{◌≡◌, ◌∙◌, Some, None, rules, sym}
use Rattle.ados_machine.specs.InUse.{has_request}
use Rattle.ados_machine.specs.World.{pending_of}
use Rattle.ados_world.specs.Due.{first_number}
use Rattle.ados_world.proofs.FirstLemmas.{first-here, first-later, first-nowhere}
use Rattle.ados_launch.specs.Rounds.{asks_start}
use Rattle.ados_launch.proofs.Stages.{start-asks}
use Rattle.ados_launch.proofs.rounds.+first_start.Goals as goal

pub returns-in_err-number-clause-number : goal.returns-in_err-number-clause-number
returns-in_err-number-clause-number t c =
    let w = c.args.world.now in
    let none : first_number c.args.from (has_request w) ≡ None = search rules in
    let given : c.from_residual.result ≡ None = search rules in
    given ∙ sym (first-nowhere (λ k. asks_start (pending_of w k)) (has_request w) c.args.from (λ k. start-asks (pending_of w k)) none)

pub returns-then-asks_start-clause-number : goal.returns-then-asks_start-clause-number
returns-then-asks_start-clause-number t c =
    let w = c.args.world.now in
    let some : first_number c.args.from (has_request w) ≡ Some c.in_ok-number.number = search rules in
    sym (first-here (λ k. asks_start (pending_of w k)) (has_request w) c.args.from c.in_ok-number.number c.requires (λ k. start-asks (pending_of w k)) some
    (sym c.asks_start.ensures ∙ c.if-asks_start.true))

pub returns-else-asks_start-clause-number : goal.returns-else-asks_start-clause-number
returns-else-asks_start-clause-number t c =
    let w = c.args.world.now in
    let some : first_number c.args.from (has_request w) ≡ Some c.in_ok-number.number = search rules in
    c.first_start.ensures.number
    ∙ sym (first-later (λ k. asks_start (pending_of w k)) (has_request w) c.args.from c.in_ok-number.number c.requires (λ k. start-asks (pending_of w k)) some
    (sym c.asks_start.ensures ∙ c.if-asks_start.false))
