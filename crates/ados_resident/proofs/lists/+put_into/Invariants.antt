use Rattle.std.proofs.Common.{length}
use Rattle.ados_resident.proofs.lists.+put_into.Given as goal

abbrev pub decreases-put_into : goal.decreases-put_into
decreases-put_into l = length l.entries.now
