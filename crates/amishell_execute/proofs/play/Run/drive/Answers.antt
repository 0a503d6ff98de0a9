use Rattle.ados_launch.proofs.ActsLaws.{does-by-rule}
use Rattle.amishell_execute.specs.Playing.{playing_moment}
use Rattle.amishell_execute.proofs.Driving.{waited-end, waited-fault}
use Rattle.amishell_execute.proofs.play.Run.drive.Goals as goal

pub returns-in-Ok-clause-does : goal.returns-in-Ok-clause-does
returns-in-Ok-clause-does g c = does-by-rule _ _ _ _ _ c.in-Ok.ensures.does c.new-session.ensures.sane

pub returns-in-Ok-clause-drives : goal.returns-in-Ok-clause-drives
returns-in-Ok-clause-drives g c none = waited-end c.args.self.now.turns _ _ c.in-Ok.end (c.in-Ok.ensures.drives none) c.in-Ok.ensures.agrees

pub returns-clause-does : goal.returns-clause-does
returns-clause-does g c = does-by-rule _ _ _ _ _ c.in-Err.ensures.does c.new-session.ensures.sane

pub returns-clause-drives : goal.returns-clause-drives
returns-clause-drives g c none =
    waited-fault c.args.self.now.turns _
    (playing_moment g.K.Sink.contents g.K.Sink.faults g.K.Sink.stalls c.drive_followed.new.world c.drive_followed.new.self.reader c.drive_followed.new.writer.inner c.drive_followed.new.self.launcher)
    c.abandon.new.launcher.calls c.abandon.new.launcher.is_full c.in-Err.fault c.abandon.ensures.room (c.in-Err.ensures.drives none) c.abandon.ensures.waits c.abandon.ensures.over
