use Rattle.ados_check.specs.Errors.{AreSo}
use Rattle.ados_check.specs.LeftOut.{StayTold}
use Rattle.ados_check.specs.Signs.{SaysTheSame}
use Rattle.ados_check.proofs.look.Look.push_problems.Given as goal

abbrev pub invariant-loop-place : goal.invariant-loop-place
invariant-loop-place l =
    SaysTheSame l.initial.found.items l.found.items
    × (AreSo l.self.dialect l.self.written.now l.initial.found.items → AreSo l.self.dialect l.self.written.now l.found.items)
    × StayTold l.initial.found.items l.found.items
