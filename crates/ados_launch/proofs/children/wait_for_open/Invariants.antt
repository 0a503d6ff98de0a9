use Rattle.std.proofs.Common.{◌≡◌}
use Rattle.ados_launch.proofs.Waits.{IsWaited, WaitsBelow}
use Rattle.ados_launch.proofs.children.wait_for_open.Given as goal

abbrev pub invariant-loop-number : goal.invariant-loop-number
invariant-loop-number g l = record {
  sequences : IsWaited l.number (g.L.Launcher.calls l.fn.launcher) (g.L.Launcher.calls l.launcher);
  waits : WaitsBelow l.number (g.L.Launcher.calls l.fn.launcher) (g.L.Launcher.calls l.launcher);
  full : g.L.Launcher.is_full l.launcher ≡ g.L.Launcher.is_full l.fn.launcher;
}
