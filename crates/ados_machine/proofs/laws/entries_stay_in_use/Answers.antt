use Rattle.ados_machine.proofs.UseLemmas.{entries-stay, idle-no-entry}
use Rattle.ados_machine.proofs.laws.entries_stay_in_use.Goals as goal

pub returns-clause-lasts : goal.returns-clause-lasts
returns-clause-lasts c = entries-stay

pub returns-clause-idle : goal.returns-clause-idle
returns-clause-idle c = idle-no-entry
