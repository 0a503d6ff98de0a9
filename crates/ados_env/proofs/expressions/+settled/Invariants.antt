use Rattle.std.proofs.Common.{length}
use Rattle.ados_env.specs.Expression.{waits_of}
use Rattle.ados_env.proofs.expressions.+settled.Given as goal

abbrev pub decreases-settled : goal.decreases-settled
decreases-settled l = length (waits_of l.waits)
