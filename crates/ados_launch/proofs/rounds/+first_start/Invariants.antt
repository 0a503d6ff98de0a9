use Rattle.std.proofs.Common.{◌-◌}
use Rattle.ados_launch.proofs.rounds.+first_start.Given as goal

abbrev pub decreases-first_start : goal.decreases-first_start
decreases-first_start l = 21 - l.from
