use Rattle.std.proofs.Common.{◌≡◌, ◌++◌, drop}
use Rattle.ados_text.specs.Lines.{lines_of}
use Rattle.ados_text.proofs.LineLemmas.{begun_by}
use Rattle.ados_text.proofs.lines.lines_of.Given as goal

abbrev pub invariant-loop-byte : goal.invariant-loop-byte
invariant-loop-byte l = lines_of l.bytes ≡ l.lines ++ begun_by l.line (lines_of (drop l.byte-index l.bytes))
