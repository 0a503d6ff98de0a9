use Rattle.std.proofs.Common.{length}
use Rattle.ados_ram.proofs.branches.Branch.+written.Given as goal

abbrev pub decreases-written : goal.decreases-written
decreases-written l = length l.names.now
