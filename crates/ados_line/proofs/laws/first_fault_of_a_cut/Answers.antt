use Rattle.ados_line.proofs.CutPieces.{first-fault}
use Rattle.ados_line.proofs.laws.first_fault_of_a_cut.Goals as goal

pub returns : goal.returns
returns c = first-fault
