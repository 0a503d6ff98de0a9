use Rattle.std.proofs.Common.{length}
use Rattle.ados_find.proofs.cache.+are_spelled.Given as goal

abbrev pub decreases-are_spelled : goal.decreases-are_spelled
decreases-are_spelled l = length l.names.now
