use Rattle.std.proofs.Common.{rules}
use Rattle.ados_readargs.proofs.FillLemmas.{filled}
use Rattle.ados_readargs.proofs.args.Args.refill.Goals as goal

pub returns-clause-said : goal.returns-clause-said
returns-clause-said c = filled c.args_read.result c.args_read.new.args c.args.options.now c.args.line.now (search rules) (search rules)
