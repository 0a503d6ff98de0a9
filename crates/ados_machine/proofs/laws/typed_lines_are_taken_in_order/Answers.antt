use Rattle.ados_machine.proofs.QueueLemmas.{lines-in-order}
use Rattle.ados_machine.proofs.WaitingLines.{further-lines-wait}
use Rattle.ados_machine.proofs.laws.typed_lines_are_taken_in_order.Goals as goal

pub returns-clause-run : goal.returns-clause-run
returns-clause-run c = lines-in-order

pub returns-clause-one : goal.returns-clause-one
returns-clause-one c = further-lines-wait
