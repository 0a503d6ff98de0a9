use Rattle.std.proofs.Common.{◌≡◌, drop}
use Rattle.std.specs.List.{concat}
use Rattle.ados_ram.specs.Starts.{left_of}
use Rattle.ados_ram.proofs.file_units.left_of_block.Given as goal

abbrev pub invariant-loop-piece : goal.invariant-loop-piece
invariant-loop-piece l = left_of (concat (drop l.piece-index l.piece-items)) l.wanted ≡ left_of (concat l.piece-items) l.fn.wanted
