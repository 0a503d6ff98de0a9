use Rattle.std.proofs.Common.{length}
use Rattle.ados_pattern.proofs.faults.+closed_in.Given as goal

abbrev pub decreases-closed_in : goal.decreases-closed_in
decreases-closed_in l = length l.bytes.now
