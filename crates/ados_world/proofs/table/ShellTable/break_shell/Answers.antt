use Rattle.std.proofs.Common.{◌≡◌, ◌∙◌, ◌≤◌, ◌-◌, suc, arith, subst, sym}
use Rattle.std.proofs.lemmas.Grind.{common_steps}
use Rattle.ados_world.specs.Due.{Tells}
use Rattle.ados_world.proofs.BreakLemmas.{number-broken}
use Rattle.ados_world.proofs.DueLemmas.{told-again}
use Rattle.ados_world.proofs.table.ShellTable.break_shell.Goals as goal

pub invariant_of-self : goal.invariant_of-self
invariant_of-self c = subst (Tells c.self.inside.due) (sym (c.break_number.ensures.outside (λ low. grind (arith, common_steps)))) c.self.invariant

pub invariant_of-self-then-number-lt21 : goal.invariant_of-self-then-number-lt21
invariant_of-self-then-number-lt21 c =
    let low : 1 ≤ c.args.number = grind (arith, common_steps) in
    let next : c.args.number ≡ suc (c.args.number - 1) = omega (arith, low) in
    told-again _ _ c.self.inside.places _ c.args.number (c.args.number - 1) _ next
    (c.break_number.ensures.broken ∙ sym (number-broken c.args.breaks c.self.inside.places c.args.number low)) c.self.invariant
    c.renew.ensures.turning c.renew.ensures.pending c.renew.ensures.other_turning c.renew.ensures.other_pending

pub invariant_of-self-else-number-lt21 : goal.invariant_of-self-else-number-lt21
invariant_of-self-else-number-lt21 c = subst (Tells c.self.inside.due) (sym (c.break_number.ensures.outside (λ low. grind (arith, common_steps)))) c.self.invariant
