use Rattle.std.proofs.Common.{length}
use Rattle.ados_env.proofs.expressions.+read.Given as goal

abbrev pub decreases-read : goal.decreases-read
decreases-read l = length l.tokens.now
