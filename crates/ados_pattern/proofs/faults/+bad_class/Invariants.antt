use Rattle.std.proofs.Common.{length}
use Rattle.ados_pattern.proofs.faults.+bad_class.Given as goal

abbrev pub decreases-bad_class : goal.decreases-bad_class
decreases-bad_class l = length l.bytes.now
