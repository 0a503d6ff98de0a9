use Rattle.std.proofs.Common.{◌≡◌, ◌++◌, ◌<◌, length}
use Rattle.std.specs.List.{concat}
use Rattle.ados_ram.specs.Cut.{AllOf, IsDraft, piece_bytes}
use Rattle.ados_ram.proofs.file_drafts.Draft.push.Given as goal

abbrev pub invariant-loop-rest : goal.invariant-loop-rest
invariant-loop-rest l =
    ((concat l.self.blocks.items ++ concat l.self.pieces.items) ++ l.rest ≡ (concat l.fn.self.blocks.items ++ concat l.fn.self.pieces.items) ++ l.more)
    × IsDraft l.self.blocks.items l.self.pieces.items
    × (0 < length l.rest → AllOf piece_bytes l.self.pieces.items)

abbrev pub decreases-loop-rest : goal.decreases-loop-rest
decreases-loop-rest l = length l.rest
