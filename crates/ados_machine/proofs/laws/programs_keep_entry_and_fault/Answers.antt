use Rattle.ados_machine.proofs.ProgramLemmas.{starts-ask, starts-use-their-entry, first-faults-stay, pieces-printed}
use Rattle.ados_machine.proofs.laws.programs_keep_entry_and_fault.Goals as goal

pub returns : goal.returns
returns c = record { asked = starts-ask; entry = starts-use-their-entry; fault = first-faults-stay; printed = pieces-printed }
