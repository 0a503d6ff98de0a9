use Rattle.std.proofs.Common.{◌≡◌, drop}
use Rattle.std.specs.List.{concat}
use Rattle.ados_ram.specs.Starts.{left_of}
use Rattle.ados_ram.proofs.file_units.left_of_blocks.Given as goal

abbrev pub invariant-loop-block : goal.invariant-loop-block
invariant-loop-block l = left_of (concat (drop l.block-index l.blocks)) l.wanted ≡ left_of (concat l.blocks) l.fn.wanted
