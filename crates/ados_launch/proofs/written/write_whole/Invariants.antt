use Rattle.std.proofs.Common.{length, ◌-◌, ◌≡◌, ◌≤◌, take}
use Rattle.std.specs.Io.KnownBytes.{Appends}
use Rattle.ados_launch.proofs.written.write_whole.Given as goal

abbrev pub invariant-loop-at : goal.invariant-loop-at
invariant-loop-at g l = record {
  in_range : l.at ≤ length l.bytes;
  faults : g.K.Sink.faults l.writer ≡ g.K.Sink.faults l.fn.writer;
  stalls : g.K.Sink.stalls l.writer ≡ g.K.Sink.stalls l.fn.writer;
  written : Appends (g.K.Sink.contents l.fn.writer) (g.K.Sink.contents l.writer) (take l.at l.bytes);
}

abbrev pub decreases-loop-at : goal.decreases-loop-at
decreases-loop-at g l = length l.bytes - l.at
