use Rattle.std.proofs.Common.{string_bytes}
use Rattle.std.proofs.lemmas.Map.Text.{btree_map_updates_text}
use Rattle.ados_share.proofs.mirror.Mirror.keep.Goals as goal

pub returns-clause-kept : goal.returns-clause-kept
returns-clause-kept c = λ q. btree_map_updates_text (string_bytes c.args.key) c.args.self.now.records c.insert.new.self _ c.in_ok-insert.ensures.updates q
