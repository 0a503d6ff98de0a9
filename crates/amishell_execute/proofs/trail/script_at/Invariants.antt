use Rattle.std.proofs.Common.{◌≡◌, length}
use Rattle.amishell_execute.specs.Ends.{script_at}
use Rattle.amishell_execute.proofs.trail.script_at.Given as goal

abbrev pub invariant-loop-frame : goal.invariant-loop-frame
invariant-loop-frame l = script_at l.initial.frames l.initial.newer ≡ script_at l.rest l.left

abbrev pub decreases-loop-frame : goal.decreases-loop-frame
decreases-loop-frame l = length l.rest
