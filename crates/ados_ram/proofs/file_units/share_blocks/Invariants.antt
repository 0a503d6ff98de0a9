use Rattle.std.proofs.Common.{◌≡◌, ◌++◌, drop}
use Rattle.ados_ram.proofs.file_units.share_blocks.Given as goal

abbrev pub invariant-loop-block : goal.invariant-loop-block
invariant-loop-block l = l.out.items ++ drop l.block-index l.blocks ≡ l.initial.out.items ++ l.blocks
