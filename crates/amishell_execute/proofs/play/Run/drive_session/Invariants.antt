use Rattle.std.proofs.Common.{◌≡◌, ◌≤◌, true, is_none}
use Rattle.ados_launch.specs.Agreement.{Agrees, IsOpenTable}
use Rattle.amishell_execute.specs.Playing.{playing_moment}
use Rattle.amishell_execute.proofs.DeedsGathering.{DoesGathering}
use Rattle.amishell_execute.proofs.Driving.{DrivenAlone}
use Rattle.amishell_execute.proofs.play.Run.drive_session.Given as goal

abbrev pub invariant-loop : goal.invariant-loop
invariant-loop g l = record {
  reader : l.self.reader.faults ≡ l.fn.self.reader.faults;
  writer : g.K.Sink.faults l.writer.inner ≡ g.K.Sink.faults l.fn.writer.inner;
  count : l.session.schedule.taken ≤ l.counter;
  agrees : Agrees l.world l.self.launcher.calls;
  does : DoesGathering l.fn.world l.world (g.K.Sink.contents l.fn.writer.inner) (g.K.Sink.contents l.writer.inner) l.session.gathered;
  children : IsOpenTable l.session.children l.self.launcher.calls;
  share : is_none l.share ≡ is_none l.fn.share;
  alone : is_none l.fn.share ≡ true → DrivenAlone
      (playing_moment g.K.Sink.contents g.K.Sink.faults g.K.Sink.stalls l.fn.world l.fn.self.reader l.fn.writer.inner l.fn.self.launcher)
      (playing_moment g.K.Sink.contents g.K.Sink.faults g.K.Sink.stalls l.world l.self.reader l.writer.inner l.self.launcher)
      l.counter l.session;
}
