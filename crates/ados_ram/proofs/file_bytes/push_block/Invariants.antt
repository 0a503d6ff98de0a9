use Rattle.std.proofs.Common.{◌≡◌, ◌++◌, drop}
use Rattle.std.specs.List.{concat}
use Rattle.ados_ram.proofs.file_bytes.push_block.Given as goal

abbrev pub invariant-loop-piece : goal.invariant-loop-piece
invariant-loop-piece l = l.out.items ++ concat (drop l.piece-index l.piece-items) ≡ l.initial.out.items ++ concat l.piece-items
