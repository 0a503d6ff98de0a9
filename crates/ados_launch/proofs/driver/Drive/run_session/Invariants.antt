use Rattle.std.proofs.Common.{◌≡◌, ◌≤◌, ◌<◌, [], length}
use Rattle.ados_launch.specs.Agreement.{Agrees, IsOpenTable}
use Rattle.ados_launch.specs.Lines.{bytes_ahead}
use Rattle.ados_launch.specs.Session.{moment_of}
use Rattle.ados_launch.proofs.Gathering.{DrivenGathering}
use Rattle.ados_launch.proofs.driver.Drive.run_session.Given as goal

abbrev pub invariant-loop : goal.invariant-loop
invariant-loop g l = record {
  reader : g.S.Source.faults l.reader ≡ g.S.Source.faults l.fn.reader;
  writer : g.K.Sink.faults l.writer ≡ g.K.Sink.faults l.fn.writer;
  stalls : g.K.Sink.stalls l.writer ≡ g.K.Sink.stalls l.fn.writer;
  in_round : l.session.schedule.round.place ≤ 61;
  count : l.session.schedule.taken ≡ l.counter;
  few : length l.session.held < 4096;
  fresh_reader : l.counter ≡ 0 → l.reader ≡ l.fn.reader;
  fresh_writer : l.counter ≡ 0 → l.writer ≡ l.fn.writer;
  fresh_gathered : l.counter ≡ 0 → l.session.gathered ≡ [];
  agrees : Agrees l.world (g.L.Launcher.calls l.launcher);
  children : IsOpenTable l.session.children (g.L.Launcher.calls l.launcher);
  driven : DrivenGathering
      (moment_of g.S.Source.left g.S.Source.faults g.K.Sink.contents g.K.Sink.faults g.K.Sink.stalls g.L.Launcher.calls g.L.Launcher.is_full l.fn.world l.fn.reader l.fn.writer l.fn.launcher)
      (moment_of g.S.Source.left g.S.Source.faults g.K.Sink.contents g.K.Sink.faults g.K.Sink.stalls g.L.Launcher.calls g.L.Launcher.is_full l.world l.reader l.writer l.launcher)
      l.self.breaks.now l.counter l.session.schedule (bytes_ahead l.session.held (g.S.Source.left l.reader)) l.session.gathered;
}
