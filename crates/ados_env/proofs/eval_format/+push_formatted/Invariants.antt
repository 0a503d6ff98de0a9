use Rattle.std.proofs.Common.{length}
use Rattle.ados_env.proofs.eval_format.+push_formatted.Given as goal

abbrev pub decreases-push_formatted : goal.decreases-push_formatted
decreases-push_formatted l = length l.format.now
