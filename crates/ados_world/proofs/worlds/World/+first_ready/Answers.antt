use Rattle.std.proofs.Common.{◌≡◌, ◌∙◌, Some, None, rules, sym}
use Rattle.ados_machine.specs.World.{input_of, is_ready, numbered_shell}
use Rattle.ados_world.specs.Due.{first_number, takes_turns}
use Rattle.ados_world.proofs.DueLemmas.{turns-if-ready}
use Rattle.ados_world.proofs.FirstLemmas.{first-here, first-later, first-nowhere}
use Rattle.ados_world.proofs.worlds.World.+first_ready.Goals as goal

pub returns-in_err-number-clause-number : goal.returns-in_err-number-clause-number
returns-in_err-number-clause-number t c =
    let w = c.args.self.now in
    let none : first_number c.args.from (λ k. takes_turns (numbered_shell w k)) ≡ None = rw (← c.self.view_is) (search rules) in
    let given : c.from_residual.result ≡ None = search rules in
    given ∙ sym (first-nowhere (is_ready w) (λ k. takes_turns (numbered_shell w k)) c.args.from (λ k. turns-if-ready (input_of w k) (numbered_shell w k)) none)

pub returns-then-ready-clause-number : goal.returns-then-ready-clause-number
returns-then-ready-clause-number t c =
    let w = c.args.self.now in
    let some : first_number c.args.from (λ k. takes_turns (numbered_shell w k)) ≡ Some c.in_ok-number.number = rw (← c.self.view_is) (search rules) in
    sym (first-here (is_ready w) (λ k. takes_turns (numbered_shell w k)) c.args.from c.in_ok-number.number c.requires
    (λ k. turns-if-ready (input_of w k) (numbered_shell w k)) some (sym c.ready.ensures ∙ c.if-ready.true))

pub returns-else-ready-clause-number : goal.returns-else-ready-clause-number
returns-else-ready-clause-number t c =
    let w = c.args.self.now in
    let some : first_number c.args.from (λ k. takes_turns (numbered_shell w k)) ≡ Some c.in_ok-number.number = rw (← c.self.view_is) (search rules) in
    c.first_ready.ensures.number ∙ sym (first-later (is_ready w) (λ k. takes_turns (numbered_shell w k)) c.args.from c.in_ok-number.number c.requires
    (λ k. turns-if-ready (input_of w k) (numbered_shell w k)) some (sym c.ready.ensures ∙ c.if-ready.false))
