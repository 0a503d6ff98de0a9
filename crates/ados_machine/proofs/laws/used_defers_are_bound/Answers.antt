use Rattle.ados_machine.proofs.BoundLemmas.{used-defers-bound}
use Rattle.ados_machine.proofs.laws.used_defers_are_bound.Goals as goal

pub returns : goal.returns
returns c = used-defers-bound
