use Rattle.ados_readargs.proofs.FillLemmas.{first-fault}
use Rattle.ados_readargs.proofs.laws.first_fault_of_a_line.Goals as goal

pub returns : goal.returns
returns c = first-fault
