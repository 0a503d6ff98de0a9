use Rattle.std.proofs.Common.{rules, ◌∙◌, sym, false, refl, get_or}
use Rattle.ados_launch.proofs.NextCall.{open-state}
use Rattle.ados_launch.proofs.Waits.{sequences-more, waits-more, still-open, none-waited, no-waits}
use Rattle.ados_launch.proofs.children.wait_for_open.Goals as goal

pub wait_if-requires-clause-children : goal.wait_if-requires-clause-children
wait_if-requires-clause-children g c o =
    open-state c.loop-number.number (g.L.Launcher.calls c.loop-number.launcher)
    (still-open c.loop-number.number (g.L.Launcher.calls c.args.launcher.now) (g.L.Launcher.calls c.loop-number.launcher) c.loop-number.invariant.sequences
    (sym (c.requires.children.1 c.loop-number.number) ∙ (search rules)))

pub loop-number-init : goal.loop-number-init
loop-number-init g c = record {
  sequences = none-waited (g.L.Launcher.calls c.args.launcher.now);
  waits = no-waits (g.L.Launcher.calls c.args.launcher.now);
  full = refl;
}

pub loop-number-preserved : goal.loop-number-preserved
loop-number-preserved g c = record {
  sequences = sequences-more c.loop-number.number (get_or c.args.children.now c.loop-number.number false) (g.L.Launcher.calls c.args.launcher.now) (g.L.Launcher.calls c.loop-number.launcher) _
      c.loop-number.invariant.sequences (c.requires.children.1 c.loop-number.number) (rw c.from.ensures at c.wait_if.ensures.asked);
  waits = waits-more c.loop-number.number (get_or c.args.children.now c.loop-number.number false) (g.L.Launcher.calls c.args.launcher.now) (g.L.Launcher.calls c.loop-number.launcher) _
      c.loop-number.invariant.waits (c.requires.children.1 c.loop-number.number) (rw c.from.ensures at c.wait_if.ensures.asked);
  full = search rules;
}
