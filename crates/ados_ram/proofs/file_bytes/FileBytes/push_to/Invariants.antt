use Rattle.std.proofs.Common.{◌≡◌, ◌++◌, drop}
use Rattle.std.specs.List.{concat}
use Rattle.ados_ram.proofs.file_bytes.FileBytes.push_to.Given as goal

abbrev pub invariant-loop-block : goal.invariant-loop-block
invariant-loop-block l = l.out.items ++ concat (drop l.block-index l.block-items) ≡ l.initial.out.items ++ concat l.block-items
