use Rattle.std.proofs.Common.{length}
use Rattle.ados_pattern.proofs.builds.+built.Given as goal

abbrev pub decreases-built : goal.decreases-built
decreases-built l = length l.bytes.now
