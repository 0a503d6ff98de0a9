use Rattle.std.proofs.Common.{◌+◌, ◌*◌, sym, ◌∙◌, arith}
use Rattle.ados_pattern.proofs.Bits.{set-zero, lt-false}
use Rattle.ados_pattern.proofs.words.below.Goals as goal

pub returns-then-limit-eq0 : goal.returns-then-limit-eq0
returns-then-limit-eq0 c = λ b l. set-zero b ∙ sym (lt-false (c.args.group * 64 + b) c.args.limit (omega (arith, c.if-limit-eq0.true)))
