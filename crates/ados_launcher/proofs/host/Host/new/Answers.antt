use Rattle.ados_launcher.proofs.OpenLemmas.{opens-none}
use Rattle.ados_launcher.proofs.host.Host.new.Goals as goal

pub invariant_of-result : goal.invariant_of-result
invariant_of-result g c = opens-none c.in_ok-new.field-0 c.new-2.result.calls c.in_ok-new.ensures c.new-2.ensures.calls
