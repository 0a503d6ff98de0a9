use Rattle.ados_machine.proofs.BindingLemmas.{binds-only}
use Rattle.ados_machine.proofs.laws.events_bind_only_what_they_used.Goals as goal

pub returns : goal.returns
returns c = binds-only
