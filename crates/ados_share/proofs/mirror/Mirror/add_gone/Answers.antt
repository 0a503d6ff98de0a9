use Rattle.std.proofs.Common.{arith}
use Rattle.std.proofs.lemmas.Map.Text.{text_keys}
use Rattle.ados_share.proofs.mirror.Mirror.add_gone.Goals as goal

pub loop-key-preserved-then-not-is_hidden : goal.loop-key-preserved-then-not-is_hidden
loop-key-preserved-then-not-is_hidden c = λ q. grind (arith, text_keys, c.loop-key.invariant q)
