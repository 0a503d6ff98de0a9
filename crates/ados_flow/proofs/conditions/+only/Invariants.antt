use Rattle.std.proofs.Common.{length}
use Rattle.ados_flow.proofs.conditions.+only.Given as goal

abbrev pub decreases-only : goal.decreases-only
decreases-only l = length l.tests.now
