use Rattle.std.proofs.Common.{◌≡◌}
use Rattle.ados_launch.specs.Agreement.{Agrees, IsOpenTable}
use Rattle.ados_launch.specs.Deeds.{RunsLines}
use Rattle.amishell_execute.proofs.share.Share.bring_in.Given as goal

abbrev pub invariant-loop-arrival : goal.invariant-loop-arrival
invariant-loop-arrival g l = record {
  agrees : Agrees l.world l.launcher.calls;
  children : IsOpenTable l.session.children l.launcher.calls;
  schedule : l.session.schedule ≡ l.fn.session.schedule;
  held : l.session.held ≡ l.fn.session.held;
  gathered : l.session.gathered ≡ l.fn.session.gathered;
  ran : RunsLines l.fn.world l.world;
}
