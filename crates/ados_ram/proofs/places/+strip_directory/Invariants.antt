use Rattle.std.proofs.Common.{length}
use Rattle.ados_ram.proofs.places.+strip_directory.Given as goal

abbrev pub decreases-strip_directory : goal.decreases-strip_directory
decreases-strip_directory l = length l.directory.now
