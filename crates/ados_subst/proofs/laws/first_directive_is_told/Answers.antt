use Rattle.ados_subst.proofs.FaultLemmas.{first-directive}
use Rattle.ados_subst.proofs.laws.first_directive_is_told.Goals as goal

pub returns : goal.returns
returns c = first-directive
