use Rattle.std.proofs.Common.{length}
use Rattle.ados_ram.proofs.branches.Branch.+way.Given as goal

abbrev pub decreases-way : goal.decreases-way
decreases-way l = length l.names.now
