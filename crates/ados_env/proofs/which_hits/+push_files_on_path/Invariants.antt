use Rattle.std.proofs.Common.{length}
use Rattle.ados_env.proofs.which_hits.+push_files_on_path.Given as goal

abbrev pub decreases-push_files_on_path : goal.decreases-push_files_on_path
decreases-push_files_on_path l = length l.path.now
