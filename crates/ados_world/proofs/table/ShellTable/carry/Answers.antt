use Rattle.ados_world.proofs.DueLemmas.{told-placed}
use Rattle.ados_world.proofs.table.ShellTable.carry.Goals as goal

pub invariant_of-self : goal.invariant_of-self
invariant_of-self c = rw c.place_all.ensures (told-placed c.self.inside.due c.args.directories c.self.inside.places c.self.invariant)
