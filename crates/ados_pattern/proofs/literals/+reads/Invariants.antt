use Rattle.std.proofs.Common.{length}
use Rattle.ados_pattern.proofs.literals.+reads.Given as goal

abbrev pub decreases-reads : goal.decreases-reads
decreases-reads l = length l.bytes.now
