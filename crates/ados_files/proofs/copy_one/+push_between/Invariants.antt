use Rattle.std.proofs.Common.{length}
use Rattle.ados_files.proofs.copy_one.+push_between.Given as goal

abbrev pub decreases-push_between : goal.decreases-push_between
decreases-push_between l = length l.names.now
