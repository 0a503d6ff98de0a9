use Rattle.ados_check.specs.Errors.{StaySo}
use Rattle.ados_check.specs.LeftOut.{ToldWith, has_any}
use Rattle.ados_check.specs.Signs.{SaysTheSame}
use Rattle.ados_check.proofs.lines.push_options.Given as goal

abbrev pub invariant-loop-left_out : goal.invariant-loop-left_out
invariant-loop-left_out l =
    SaysTheSame l.initial.found.items l.found.items
    × StaySo l.initial.found.items l.found.items
    × ToldWith l.line (has_any l.yielded) l.initial.found.items l.found.items
