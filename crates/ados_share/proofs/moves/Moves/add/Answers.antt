use Rattle.std.proofs.Common.{string_bytes}
use Rattle.std.proofs.lemmas.Map.Text.{btree_map_updates_text}
use Rattle.ados_share.proofs.moves.Moves.add.Goals as goal

pub returns-clause-added : goal.returns-clause-added
returns-clause-added c = λ q. btree_map_updates_text (string_bytes c.args.key) c.args.self.now.by_key c.insert.new.self _ c.in_ok-insert.ensures.updates q
