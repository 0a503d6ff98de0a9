use Rattle.ados_machine.proofs.BrokenLemmas.{breaks-by-c, breaks-by-d, breaks-use-up, commands-use-up}
use Rattle.ados_machine.proofs.laws.breaks_set_and_use_up.Goals as goal

pub returns : goal.returns
returns c = record { c = breaks-by-c; d = breaks-by-d; ends = breaks-use-up; commands = commands-use-up }
