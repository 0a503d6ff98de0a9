use Rattle.std.proofs.Common.{length}
use Rattle.ados_shell.proofs.seen.+push_outputs.Given as goal

abbrev pub decreases-push_outputs : goal.decreases-push_outputs
decreases-push_outputs l = length l.frames.now
