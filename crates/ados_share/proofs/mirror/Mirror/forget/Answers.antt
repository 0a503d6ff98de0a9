use Rattle.std.proofs.lemmas.Map.Text.{btree_map_updates_text}
use Rattle.ados_share.proofs.mirror.Mirror.forget.Goals as goal

pub returns-clause-forgotten : goal.returns-clause-forgotten
returns-clause-forgotten c = λ q. btree_map_updates_text c.args.key.now c.args.self.now.records c.remove.new.self _ c.remove.ensures.updates q
