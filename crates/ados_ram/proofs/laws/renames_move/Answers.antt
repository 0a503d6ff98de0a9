use Rattle.ados_ram.proofs.MoveLemmas.{renames-move}
use Rattle.ados_ram.proofs.laws.renames_move.Goals as goal

pub returns : goal.returns
returns c = renames-move
