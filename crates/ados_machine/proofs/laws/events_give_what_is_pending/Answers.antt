use Rattle.ados_machine.proofs.GivenLemmas.{events-give}
use Rattle.ados_machine.proofs.ReadyLemmas.{ready-turned}
use Rattle.ados_machine.proofs.laws.events_give_what_is_pending.Goals as goal

pub returns-clause-pending : goal.returns-clause-pending
returns-clause-pending c = events-give

pub returns-clause-ready : goal.returns-clause-ready
returns-clause-ready c = ready-turned
