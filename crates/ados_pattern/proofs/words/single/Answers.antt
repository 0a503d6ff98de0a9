use Rattle.ados_pattern.proofs.Columns.{single-there, single-elsewhere}
use Rattle.ados_pattern.proofs.words.single.Goals as goal

pub returns-then-end-group : goal.returns-then-end-group
returns-then-end-group c = λ b l. single-there c.args.end c.args.group b c.if-end-group.true l

pub returns-else-end-group : goal.returns-else-end-group
returns-else-end-group c = λ b l. single-elsewhere c.args.end c.args.group b c.if-end-group.false l
