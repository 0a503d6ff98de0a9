use Rattle.std.proofs.Common.{length}
use Rattle.ados_shell.proofs.seen.+first_free_number.Given as goal

abbrev pub decreases-first_free_number : goal.decreases-first_free_number
decreases-first_free_number l = length l.shells.now
