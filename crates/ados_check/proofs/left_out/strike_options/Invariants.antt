use Rattle.std.proofs.Common.{drop}
use Rattle.ados_check.specs.LeftOut.{is_in_idle, struck}
use Rattle.ados_check.proofs.ChangeLemmas.{Leaves}
use Rattle.ados_check.proofs.left_out.strike_options.Given as goal

abbrev pub invariant-loop-given : goal.invariant-loop-given
invariant-loop-given l = Leaves struck (is_in_idle l.from (drop l.given-index l.options)) (is_in_idle l.from l.options) l.initial.script l.script
