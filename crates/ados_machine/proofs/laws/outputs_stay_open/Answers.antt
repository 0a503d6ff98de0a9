use Rattle.ados_machine.proofs.OutputLemmas.{outputs-stay, starts-open}
use Rattle.ados_machine.proofs.laws.outputs_stay_open.Goals as goal

pub returns-clause-opens : goal.returns-clause-opens
returns-clause-opens c = starts-open

pub returns-clause-lasts : goal.returns-clause-lasts
returns-clause-lasts c = outputs-stay
