use Rattle.ados_launch.proofs.NextCall.{asks-start, asks-read, asks-wait}
use Rattle.ados_launch.proofs.asks.ask.Goals as goal

pub returns-in-Start : goal.returns-in-Start
returns-in-Start g c =
    rw c.in-Start.is
    (asks-start _ c.start.result (g.L.Launcher.is_full c.args.launcher.now) (g.L.Launcher.is_full c.start.new.self) (g.L.Launcher.calls c.args.launcher.now) (g.L.Launcher.calls c.start.new.self) c.start.ensures.kind c.start.ensures.listed c.start.ensures.stays)

pub returns-in-Read : goal.returns-in-Read
returns-in-Read g c =
    rw c.in-Read.is
    (asks-read _ c.read.result (g.L.Launcher.is_full c.args.launcher.now) (g.L.Launcher.is_full c.read.new.self) (g.L.Launcher.calls c.args.launcher.now) (g.L.Launcher.calls c.read.new.self) c.read.ensures.kind c.read.ensures.listed c.read.ensures.full)

pub returns-in-Wait : goal.returns-in-Wait
returns-in-Wait g c =
    rw c.in-Wait.is
    (asks-wait _ c.wait.result (g.L.Launcher.is_full c.args.launcher.now) (g.L.Launcher.is_full c.wait.new.self) (g.L.Launcher.calls c.args.launcher.now) (g.L.Launcher.calls c.wait.new.self) c.wait.ensures.kind c.wait.ensures.listed c.wait.ensures.full)
