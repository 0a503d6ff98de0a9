use Rattle.ados_machine.proofs.KeptLemmas.{fresh-all, events-keep-all, last-codes-stay}
use Rattle.ados_machine.proofs.laws.last_codes_stay.Goals as goal

pub returns : goal.returns
returns c = record { fresh = fresh-all; kept = events-keep-all; run = last-codes-stay }
