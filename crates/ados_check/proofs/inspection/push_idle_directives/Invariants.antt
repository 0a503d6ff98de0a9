use Rattle.ados_check.specs.Errors.{StaySo}
use Rattle.ados_check.specs.LeftOut.{StayTold}
use Rattle.ados_check.specs.Signs.{SaysTheSame}
use Rattle.ados_check.proofs.inspection.push_idle_directives.Given as goal

abbrev pub invariant-loop-place : goal.invariant-loop-place
invariant-loop-place l =
    SaysTheSame l.initial.found.items l.found.items × StaySo l.initial.found.items l.found.items × StayTold l.initial.found.items l.found.items
