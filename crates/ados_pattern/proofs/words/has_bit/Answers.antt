use Rattle.ados_pattern.proofs.Bits.{set-test}
use Rattle.ados_pattern.proofs.words.has_bit.Goals as goal

pub returns : goal.returns
returns c = set-test c.args.word c.args.bit
