use Rattle.std.proofs.Common.{◌≡◌, length, reverse}
use Rattle.ados_machine.specs.Sinks.{Sink}
use Rattle.ados_shell.specs.Stacks.{sink_above}
use Rattle.ados_shell.proofs.stacks.way_of.Given as goal

abbrev pub invariant-loop-frame : goal.invariant-loop-frame
invariant-loop-frame l = (below : Sink) → sink_above (reverse l.frames) below ≡ sink_above (reverse l.left) below

abbrev pub decreases-loop-frame : goal.decreases-loop-frame
decreases-loop-frame l = length l.left
