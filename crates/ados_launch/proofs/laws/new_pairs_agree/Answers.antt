use Rattle.ados_launch.proofs.NewPair.{new_pair}
use Rattle.ados_launch.proofs.laws.new_pairs_agree.Goals as goal

pub returns : goal.returns
returns c = new_pair
