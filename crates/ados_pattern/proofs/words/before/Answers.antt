use Rattle.std.proofs.Common.{inl, inr}
use Rattle.ados_pattern.proofs.Columns.{nothing-before, not-before}
use Rattle.ados_pattern.proofs.words.before.Goals as goal

pub returns-else-holds : goal.returns-else-holds
returns-else-holds c = λ b l. elim c.else-holds.either [
  | inl w ↦ nothing-before c.args.start c.args.group b c.args.holds w.1
  | inr w ↦ not-before c.args.start c.args.group b c.args.holds w
]
