use Rattle.std.proofs.Common.{drop, map}
use Rattle.ados_check.specs.LeftOut.{shown, struck}
use Rattle.ados_check.proofs.ChangeLemmas.{Leaves}
use Rattle.ados_check.proofs.StrikeLemmas.{is_in_parts}
use Rattle.ados_check.proofs.left_out.strike_line.Given as goal

abbrev pub invariant-loop-one : goal.invariant-loop-one
invariant-loop-one l =
    Leaves struck (is_in_parts l.from (map shown (drop l.one-index l.one-items))) (is_in_parts l.from (map shown l.one-items)) l.initial.script l.script
