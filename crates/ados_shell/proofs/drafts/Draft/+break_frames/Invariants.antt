use Rattle.std.proofs.Common.{length}
use Rattle.ados_shell.specs.Drafts.{frames_of}
use Rattle.ados_shell.proofs.drafts.Draft.+break_frames.Given as goal

abbrev pub decreases-break_frames : goal.decreases-break_frames
decreases-break_frames l = length (frames_of l.scene.now l.self.now)
