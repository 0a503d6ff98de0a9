use Rattle.std.proofs.Common.{◌≡◌, ◌++◌}
use Rattle.std.proofs.Math.ListN.{replicate}
use Rattle.ados_text.proofs.columns.push_padding.Given as goal

abbrev pub invariant-loop : goal.invariant-loop
invariant-loop l = l.output.items ≡ l.initial.output.items ++ replicate l.counter l.fn.byte
