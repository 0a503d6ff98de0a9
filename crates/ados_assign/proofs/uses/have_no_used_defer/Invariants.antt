use Rattle.std.proofs.Common.{◌≡◌, drop}
use Rattle.ados_assign.specs.Uses.{has_no_used_defer}
use Rattle.ados_assign.proofs.uses.have_no_used_defer.Given as goal

abbrev pub invariant-loop-row : goal.invariant-loop-row
invariant-loop-row l = has_no_used_defer l.used (drop l.row-index l.rows) ≡ has_no_used_defer l.used l.rows
