use Rattle.ados_pattern.proofs.Middles.{cleared, cleared-less}
use Rattle.ados_pattern.proofs.words.without.Goals as goal

pub returns-clause-bits : goal.returns-clause-bits
returns-clause-bits c = λ b l. cleared c.args.word c.args.bit b c.requires l

pub returns-clause-less : goal.returns-clause-less
returns-clause-less c = λ s. cleared-less c.args.word c.args.bit c.requires s
