use Rattle.std.proofs.Common.{length}
use Rattle.ados_env.proofs.assign_list.ListWork.+work_all.Given as goal

abbrev pub decreases-work_all : goal.decreases-work_all
decreases-work_all l = length l.texts.now
