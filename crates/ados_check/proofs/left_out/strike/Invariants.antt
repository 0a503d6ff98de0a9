use Rattle.std.proofs.Common.{drop}
use Rattle.ados_check.specs.LeftOut.{IsBlanked, is_idle_in_lines, struck}
use Rattle.ados_check.proofs.ChangeLemmas.{Leaves}
use Rattle.ados_check.proofs.left_out.strike.Given as goal

abbrev pub invariant-loop-line : goal.invariant-loop-line
invariant-loop-line l =
    IsBlanked l.initial.script l.script
    × Leaves struck (is_idle_in_lines l.reader.commands.now l.reader.dialect l.from (drop l.line-index l.line-items))
    (is_idle_in_lines l.reader.commands.now l.reader.dialect 0 l.line-items) l.initial.script l.script
