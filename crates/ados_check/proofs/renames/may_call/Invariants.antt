use Rattle.std.proofs.Common.{◌≡◌, drop}
use Rattle.ados_check.specs.Renames.{may_call}
use Rattle.ados_check.proofs.renames.may_call.Given as goal

abbrev pub invariant-loop-line : goal.invariant-loop-line
invariant-loop-line l = may_call l.dialect l.lines ≡ may_call l.dialect (drop l.line-index l.lines)
