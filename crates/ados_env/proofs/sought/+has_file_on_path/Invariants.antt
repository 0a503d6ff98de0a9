use Rattle.std.proofs.Common.{length}
use Rattle.ados_env.proofs.sought.+has_file_on_path.Given as goal

abbrev pub decreases-has_file_on_path : goal.decreases-has_file_on_path
decreases-has_file_on_path l = length l.path.now
