use Rattle.std.proofs.Common.{◌-◌}
use Rattle.ados_world.proofs.worlds.World.+first_ready.Given as goal

abbrev pub decreases-first_ready : goal.decreases-first_ready
decreases-first_ready l = 21 - l.from
