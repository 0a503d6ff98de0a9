use Rattle.std.proofs.Common.{length}
use Rattle.ados_files.proofs.formats.+slot_count.Given as goal

abbrev pub decreases-slot_count : goal.decreases-slot_count
decreases-slot_count l = length l.parts.now
