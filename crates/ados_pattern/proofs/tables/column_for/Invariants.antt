use Rattle.ados_pattern.specs.Table.{IsBuilt}
use Rattle.ados_pattern.proofs.tables.column_for.Given as goal

abbrev pub invariant-loop-start : goal.invariant-loop-start
invariant-loop-start l = IsBuilt l.rule l.text l.group l.column.items l.start
