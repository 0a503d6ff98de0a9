use Rattle.ados_machine.proofs.BegunLemmas.{shells-begin}
use Rattle.ados_machine.proofs.laws.shells_begin_by_their_makers.Goals as goal

pub returns : goal.returns
returns c = shells-begin
