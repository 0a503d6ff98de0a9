use Rattle.std.proofs.Common.{length}
use Rattle.ados_pattern.proofs.faults.+first_fault.Given as goal

abbrev pub decreases-first_fault : goal.decreases-first_fault
decreases-first_fault l = length l.bytes.now
