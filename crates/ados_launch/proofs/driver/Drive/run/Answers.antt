use Rattle.ados_launch.specs.Session.{moment_of}
use Rattle.ados_launch.proofs.Agreeing.{table-begins}
use Rattle.ados_launch.proofs.Outcomes.{drives-end, drives-fault}
use Rattle.ados_launch.proofs.driver.Drive.run.Goals as goal

pub run_session-requires-clause-children : goal.run_session-requires-clause-children
run_session-requires-clause-children g c = table-begins c.args.world.now (g.L.Launcher.calls c.args.launcher.now) _ c.requires.agrees c.new-session.ensures.children

pub returns-in-Ok-clause-drives : goal.returns-in-Ok-clause-drives
returns-in-Ok-clause-drives g c =
    drives-end c.args.self.now.turns c.args.self.now.breaks.now _ _ c.in-Ok.end c.in-Ok.ensures.comes_to c.in-Ok.ensures.agrees

pub returns-clause-drives : goal.returns-clause-drives
returns-clause-drives g c =
    drives-fault c.args.self.now.turns c.args.self.now.breaks.now _
    (moment_of g.S.Source.left g.S.Source.faults g.K.Sink.contents g.K.Sink.faults g.K.Sink.stalls g.L.Launcher.calls g.L.Launcher.is_full
    c.run_session.new.world c.run_session.new.reader c.run_session.new.writer c.run_session.new.launcher)
    (g.L.Launcher.calls c.abandon.new.launcher) (g.L.Launcher.is_full c.abandon.new.launcher) c.in-Err.fault c.abandon.ensures.room c.in-Err.ensures.comes_to c.abandon.ensures.waits c.abandon.ensures.over
