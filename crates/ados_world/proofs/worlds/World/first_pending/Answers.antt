use Rattle.ados_world.proofs.worlds.World.first_pending.Goals as goal

pub returns-clause-number : goal.returns-clause-number
returns-clause-number c = rw (← c.self.view_is) c.first_pending.ensures.number
