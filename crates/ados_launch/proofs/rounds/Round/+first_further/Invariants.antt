use Rattle.std.proofs.Common.{◌-◌}
use Rattle.ados_launch.proofs.rounds.Round.+first_further.Given as goal

abbrev pub decreases-first_further : goal.decreases-first_further
decreases-first_further l = 21 - l.from
