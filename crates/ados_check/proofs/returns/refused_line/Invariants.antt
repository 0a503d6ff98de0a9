use Rattle.std.proofs.Common.{◌≡◌, drop}
use Rattle.std.specs.List.{find}
use Rattle.ados_check.specs.Problems.{refuses_return}
use Rattle.ados_check.proofs.returns.refused_line.Given as goal

abbrev pub invariant-loop-one : goal.invariant-loop-one
invariant-loop-one l = find (λ one. refuses_return one.problem) l.found ≡ find (λ one. refuses_return one.problem) (drop l.one-index l.found)
