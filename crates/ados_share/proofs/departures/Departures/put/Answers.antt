use Rattle.std.proofs.Common.{string_bytes}
use Rattle.std.proofs.lemmas.Map.Text.{btree_map_updates_text}
use Rattle.ados_share.proofs.KeyLemmas.{has_key_set}
use Rattle.ados_share.proofs.departures.Departures.put.Goals as goal

pub returns : goal.returns
returns c = λ q.
    has_key_set (string_bytes c.args.key) c.args.self.now.by_key c.insert.new.self _ (btree_map_updates_text (string_bytes c.args.key) c.args.self.now.by_key c.insert.new.self _ c.in_ok-insert.ensures.updates) q
