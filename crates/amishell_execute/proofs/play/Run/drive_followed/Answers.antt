use Rattle.std.proofs.Common.{refl}
use Rattle.ados_launch.proofs.Deeding.{does-any}
use Rattle.amishell_execute.proofs.Driving.{none-by}
use Rattle.amishell_execute.proofs.play.Run.drive_followed.Goals as goal

pub returns-in_err-follow-in-Ok-clause-does : goal.returns-in_err-follow-in-Ok-clause-does
returns-in_err-follow-in-Ok-clause-does g c = does-any _ _ _ _ _ c.in-Ok.ensures.does

pub returns-after-share-2-clause-drives : goal.returns-after-share-2-clause-drives
returns-after-share-2-clause-drives g c none = c.in-Err.ensures.drives (rw (none-by c.args.share none) refl)
