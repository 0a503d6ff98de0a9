use Rattle.std.proofs.Common.{◌≡◌, ℕ, ◌≤◌, ◌<◌, List, Some, vec_len, length}
use Rattle.ados_launch.specs.Lines.{bytes_ahead}
use Rattle.ados_launch.proofs.Scanning.{Scanned}
use Rattle.ados_launch.proofs.lines.next_line.Given as goal

abbrev pub invariant-loop-length : goal.invariant-loop-length
invariant-loop-length g l = record {
  faults : g.S.Source.faults l.source ≡ g.S.Source.faults l.fn.source;
  short : vec_len l.line ≤ 512;
  few : length l.fn.held < 4096 → length l.held < 4096;
  scanned : (bytes : List ℕ) → bytes_ahead l.fn.held (g.S.Source.left l.fn.source) ≡ Some bytes
      → Scanned bytes l.length (bytes_ahead l.held (g.S.Source.left l.source)) l.line.items;
}
