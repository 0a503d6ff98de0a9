use Rattle.std.proofs.Common.{◌≡◌, ◌++◌, map, take}
use Rattle.ados_items.specs.Items.{value_of}
use Rattle.ados_readargs.proofs.buffers.Buffer.push_all.Given as goal

abbrev pub invariant-loop-place : goal.invariant-loop-place
invariant-loop-place l = l.self ≡ l.fn.self ++ map (value_of l.line) (take l.place l.items)
