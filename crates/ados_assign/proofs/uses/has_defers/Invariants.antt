use Rattle.std.proofs.Common.{◌≡◌, drop}
use Rattle.ados_assign.specs.Uses.{has_defers}
use Rattle.ados_assign.proofs.uses.has_defers.Given as goal

abbrev pub invariant-loop-row : goal.invariant-loop-row
invariant-loop-row l = has_defers (drop l.row-index l.rows) ≡ has_defers l.rows
