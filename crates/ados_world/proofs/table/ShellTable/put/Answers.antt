use Rattle.std.proofs.Common.{◌≡◌, ◌-◌, suc, arith, refl}
use Rattle.ados_world.proofs.DueLemmas.{told-again}
use Rattle.ados_world.proofs.table.ShellTable.put.Goals as goal

pub invariant_of-self : goal.invariant_of-self
invariant_of-self c =
    let next : c.args.number ≡ suc (c.args.number - 1) = omega (arith, c.requires.first) in
    told-again _ _ c.self.inside.places _ c.args.number (c.args.number - 1) c.args.shell next refl c.self.invariant
    c.renew.ensures.turning c.renew.ensures.pending c.renew.ensures.other_turning c.renew.ensures.other_pending
