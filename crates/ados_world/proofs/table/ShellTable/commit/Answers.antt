use Rattle.std.proofs.Common.{◌≡◌, ◌-◌, suc, arith}
use Rattle.ados_world.proofs.DueLemmas.{told-again}
use Rattle.ados_world.proofs.table.ShellTable.commit.Goals as goal

pub invariant_of-self-2 : goal.invariant_of-self-2
invariant_of-self-2 c =
    let next : c.args.number ≡ suc (c.args.number - 1) = omega (arith, c.requires.first) in
    told-again _ _ c.self.inside.places _ c.args.number (c.args.number - 1) _ next c.in_ok-commit.ensures.ok c.self.invariant
    c.renew.ensures.turning c.renew.ensures.pending c.renew.ensures.other_turning c.renew.ensures.other_pending
