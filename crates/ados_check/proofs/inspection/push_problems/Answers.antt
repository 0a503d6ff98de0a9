use Rattle.ados_check.proofs.ErrorLemmas.{bad_so}
use Rattle.ados_check.proofs.inspection.push_problems.Goals as goal

pub returns-in_ok-push_other-in-Bad-clause-so : goal.returns-in_ok-push_other-in-Bad-clause-so
returns-in_ok-push_other-in-Bad-clause-so c = bad_so c.args.dialect c.args.written.now c.args.sample c.in-Bad.line _ _ c.requires.bad c.in-Bad.is c.in_ok-push_other-in-Bad.ensures.so
