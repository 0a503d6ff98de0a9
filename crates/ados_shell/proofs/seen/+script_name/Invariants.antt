use Rattle.std.proofs.Common.{length}
use Rattle.ados_shell.proofs.seen.+script_name.Given as goal

abbrev pub decreases-script_name : goal.decreases-script_name
decreases-script_name l = length l.frames.now
