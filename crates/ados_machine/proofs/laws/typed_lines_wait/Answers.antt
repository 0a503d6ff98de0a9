use Rattle.ados_machine.proofs.TypingLemmas.{lines-taken-in, full-take-none}
use Rattle.ados_machine.proofs.laws.typed_lines_wait.Goals as goal

pub returns-clause-taken : goal.returns-clause-taken
returns-clause-taken c = lines-taken-in

pub returns-clause-full : goal.returns-clause-full
returns-clause-full c = full-take-none
