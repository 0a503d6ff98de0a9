use Rattle.ados_launch.proofs.ActsLaws.{acts-obey, deeds-obey}
use Rattle.ados_launch.proofs.laws.acts_obey_the_rule.Goals as goal

pub returns-clause-acts : goal.returns-clause-acts
returns-clause-acts c = acts-obey

pub returns-clause-deeds : goal.returns-clause-deeds
returns-clause-deeds c = deeds-obey
