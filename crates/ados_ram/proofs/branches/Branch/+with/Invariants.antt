use Rattle.std.proofs.Common.{length}
use Rattle.ados_ram.proofs.branches.Branch.+with.Given as goal

abbrev pub decreases-with : goal.decreases-with
decreases-with l = length l.names.now
