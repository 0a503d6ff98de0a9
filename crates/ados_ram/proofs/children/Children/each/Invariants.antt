use Rattle.std.proofs.Common.{◌≡◌, ◌++◌, drop}
use Rattle.ados_ram.specs.Blocks.{all_kids}
use Rattle.ados_ram.proofs.children.Children.each.Given as goal

abbrev pub invariant-loop-block : goal.invariant-loop-block
invariant-loop-block l = l.kids.items ++ all_kids (drop l.block-index l.block-items) ≡ all_kids l.block-items
