use Rattle.std.proofs.Common.{length}
use Rattle.ados_names.proofs.paths.+pieces_len.Given as goal

abbrev pub decreases-pieces_len : goal.decreases-pieces_len
decreases-pieces_len l = length l.steps.now
