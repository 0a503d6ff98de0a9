use Rattle.std.proofs.Common.{length}
use Rattle.ados_shell.specs.Drafts.{frames_of}
use Rattle.ados_shell.proofs.drafts.Draft.+finish.Given as goal

abbrev pub decreases-finish : goal.decreases-finish
decreases-finish l = length (frames_of l.scene.now l.self.now)
