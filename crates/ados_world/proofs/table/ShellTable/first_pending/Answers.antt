use Rattle.std.proofs.Common.{◌∙◌}
use Rattle.ados_world.proofs.FirstLemmas.{first-same}
use Rattle.ados_world.proofs.table.ShellTable.first_pending.Goals as goal

pub returns-clause-number : goal.returns-clause-number
returns-clause-number c = rw (← c.self.view_is) (c.first_set.ensures.number ∙ first-same _ _ c.args.from c.self.invariant.pending)
