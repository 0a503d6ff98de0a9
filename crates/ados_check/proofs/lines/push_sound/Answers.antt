use Rattle.ados_check.proofs.ErrorLemmas.{found_so}
use Rattle.ados_check.proofs.lines.push_sound.Goals as goal

pub returns-in_ok-push_other-in-Some-clause-so : goal.returns-in_ok-push_other-in-Some-clause-so
returns-in_ok-push_other-in-Some-clause-so c = found_so c.args.number c.args.problem c.in-Some.problem _ _ c.in-Some.is c.in_ok-push_other-in-Some.ensures.so
