use Rattle.std.proofs.Common.{◌<◌, ◌/◌, arith}
use Rattle.ados_pattern.proofs.Columns.{up-before, up-there, up-past}
use Rattle.ados_pattern.proofs.words.up_to.Goals as goal

pub returns-then-start-group : goal.returns-then-start-group
returns-then-start-group c = λ b l. up-before c.args.start c.args.group b c.if-start-group.true l

pub returns-then-start-group-2 : goal.returns-then-start-group-2
returns-then-start-group-2 c = λ b l. up-there c.args.start c.args.group b c.if-start-group-2.true l

pub returns-else-start-group-2 : goal.returns-else-start-group-2
returns-else-start-group-2 c = let past : c.args.group < c.args.start / 64 = omega (arith, c.if-start-group.false, c.if-start-group-2.false) in λ b l. up-past c.args.start c.args.group b past l
