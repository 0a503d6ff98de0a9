use Rattle.std.proofs.Common.{length}
use Rattle.ados_find.proofs.shared.Shared.+file_on_path.Given as goal

abbrev pub decreases-file_on_path : goal.decreases-file_on_path
decreases-file_on_path l = length l.path.now
