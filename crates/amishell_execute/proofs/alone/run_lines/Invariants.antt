use Rattle.std.proofs.Common.{◌≡◌}
use Rattle.ados_launch.specs.Agreement.{Agrees, IsOpenTable}
use Rattle.ados_launch.specs.Deeds.{RunsLines}
use Rattle.amishell_execute.proofs.alone.run_lines.Given as goal

abbrev pub invariant-loop-line : goal.invariant-loop-line
invariant-loop-line g l = record {
  agrees : Agrees l.world (g.L.Launcher.calls l.launcher);
  children : IsOpenTable l.session.children (g.L.Launcher.calls l.launcher);
  schedule : l.session.schedule ≡ l.fn.session.schedule;
  held : l.session.held ≡ l.fn.session.held;
  gathered : l.session.gathered ≡ l.fn.session.gathered;
  ran : RunsLines l.fn.world l.world;
}
