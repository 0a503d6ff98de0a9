use Rattle.std.proofs.Common.{sym}
use Rattle.ados_world.proofs.NewShellLemmas.{numbers_within}
use Rattle.ados_world.proofs.new_shells.next_number.Goals as goal

pub returns-clause-within : goal.returns-clause-within
returns-clause-within c = numbers_within c.args.shells.now c.free_number.result c.type_inv.shells (sym c.free_number.ensures.shells)
