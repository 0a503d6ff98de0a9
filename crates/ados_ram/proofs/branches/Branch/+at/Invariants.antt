use Rattle.std.proofs.Common.{length}
use Rattle.ados_ram.proofs.branches.Branch.+at.Given as goal

abbrev pub decreases-at : goal.decreases-at
decreases-at l = length l.names.now
