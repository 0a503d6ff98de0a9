use Rattle.std.proofs.Common.{◌∙◌, ap, sym}
use Rattle.ados_launch.specs.Rounds.{in_this_round}
use Rattle.ados_launch.proofs.rounds.first_due.Goals as goal

pub returns-in-Some-clause-place : goal.returns-in-Some-clause-place
returns-in-Some-clause-place c = sym c.in-Some.is ∙ (c.next_here.ensures ∙ ap (λ r. in_this_round r c.args.world.now) c.first.ensures)

pub returns-in-None-clause-place : goal.returns-in-None-clause-place
returns-in-None-clause-place c = sym c.in-None.is ∙ (c.next_here.ensures ∙ ap (λ r. in_this_round r c.args.world.now) c.first.ensures)
