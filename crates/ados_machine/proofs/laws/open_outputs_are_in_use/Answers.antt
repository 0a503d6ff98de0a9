use Rattle.ados_machine.proofs.RedirectedLemmas.{open-outputs-in-use}
use Rattle.ados_machine.proofs.laws.open_outputs_are_in_use.Goals as goal

pub returns : goal.returns
returns c = open-outputs-in-use
