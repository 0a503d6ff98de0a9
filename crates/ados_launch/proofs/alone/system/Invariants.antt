use Rattle.ados_launch.specs.Agreement.{Agrees}
use Rattle.ados_launch.proofs.AloneLemmas.{Going}
use Rattle.ados_launch.proofs.alone.system.Given as goal

abbrev pub invariant-loop-events : goal.invariant-loop-events
invariant-loop-events g l = record {
  agrees : Agrees l.world (g.L.Launcher.calls l.launcher);
  going : Going l.number l.fn.world l.fn.line l.fn.turns l.events (g.L.Launcher.is_full l.launcher) l.world l.fn.out.items l.out.items
      (g.L.Launcher.calls l.fn.launcher) (g.L.Launcher.calls l.launcher);
}
