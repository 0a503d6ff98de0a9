use Rattle.std.proofs.Common.{arith}
use Rattle.std.proofs.lemmas.Map.Text.{text_keys}
use Rattle.ados_share.proofs.mirror.Mirror.changes.Goals as goal

pub loop-key-preserved-in_ok-insert : goal.loop-key-preserved-in_ok-insert
loop-key-preserved-in_ok-insert c = λ q. grind (arith, text_keys, c.loop-key.invariant q)

pub loop-key-preserved : goal.loop-key-preserved
loop-key-preserved c = λ q. grind (arith, text_keys, c.loop-key.invariant q)
