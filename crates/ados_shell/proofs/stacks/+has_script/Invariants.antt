use Rattle.std.proofs.Common.{length}
use Rattle.ados_shell.proofs.stacks.+has_script.Given as goal

abbrev pub decreases-has_script : goal.decreases-has_script
decreases-has_script l = length l.frames.now
