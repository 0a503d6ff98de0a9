use Rattle.std.proofs.Common.{◌≡◌, ◌++◌, drop}
use Rattle.ados_ram.proofs.file_units.share_pieces.Given as goal

abbrev pub invariant-loop-piece : goal.invariant-loop-piece
invariant-loop-piece l = l.out.items ++ drop l.piece-index l.pieces ≡ l.initial.out.items ++ l.pieces
