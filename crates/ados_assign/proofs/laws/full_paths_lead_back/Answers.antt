use Rattle.ados_assign.proofs.FullPathLemmas.{full-back, spelled-back, written-same}
use Rattle.ados_assign.proofs.laws.full_paths_lead_back.Goals as goal

pub returns : goal.returns
returns c = record { given = spelled-back; same_place = written-same; full = full-back }
