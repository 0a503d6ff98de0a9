use Rattle.ados_machine.proofs.ManualLemmas.{ifs-lead, elses-lead, skips-lead}
use Rattle.ados_machine.proofs.SearchLemmas.{words-in-order}
use Rattle.ados_machine.proofs.laws.jumps_and_search_are_as_in_the_manual.Goals as goal

pub returns : goal.returns
returns c = record { ifs = ifs-lead; elses = elses-lead; skips = skips-lead; words = words-in-order }
