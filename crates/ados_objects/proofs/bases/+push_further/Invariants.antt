use Rattle.std.proofs.Common.{◌-◌, length}
use Rattle.ados_objects.proofs.bases.+push_further.Given as goal

abbrev pub decreases-push_further : goal.decreases-push_further
decreases-push_further l = length l.bases.now - l.from
