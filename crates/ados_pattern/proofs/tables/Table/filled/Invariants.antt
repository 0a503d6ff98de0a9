use Rattle.std.proofs.Common.{◌∷◌}
use Rattle.ados_pattern.proofs.Filling.{AreBuilt}
use Rattle.ados_pattern.proofs.tables.Table.filled.Given as goal

abbrev pub invariant-loop-group : goal.invariant-loop-group
invariant-loop-group l = AreBuilt l.rule l.text (l.first ∷ l.more.items) l.group
