use Rattle.std.proofs.lemmas.Map.Text.{btree_map_updates_text}
use Rattle.ados_share.proofs.moves.Moves.take.Goals as goal

pub returns-clause-taken : goal.returns-clause-taken
returns-clause-taken c = λ q. btree_map_updates_text c.args.key.now c.args.self.now.by_key c.remove.new.self _ c.remove.ensures.updates q
