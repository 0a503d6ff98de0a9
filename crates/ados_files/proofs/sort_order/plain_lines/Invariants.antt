use Rattle.std.proofs.Common.{◌≡◌, ◌++◌, drop}
use Rattle.ados_files.specs.SortOrder.{plain_lines}
use Rattle.ados_files.proofs.LineLemmas.{begun_by}
use Rattle.ados_files.proofs.sort_order.plain_lines.Given as goal

abbrev pub invariant-loop-byte : goal.invariant-loop-byte
invariant-loop-byte l = plain_lines l.bytes ≡ l.lines.items ++ begun_by l.line.items (plain_lines (drop l.byte-index l.bytes))
