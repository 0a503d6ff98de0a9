use Rattle.std.proofs.Common.{◌≡◌, ◌++◌, take}
use Rattle.amishell_execute.proofs.trail.share_into.Given as goal

abbrev pub invariant-loop-frame : goal.invariant-loop-frame
invariant-loop-frame l = l.kept.items ≡ l.initial.kept.items ++ take l.frame-index l.frames
