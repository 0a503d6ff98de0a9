use Rattle.std.proofs.Common.{length, ◌∷◌, ◌≡◌, ◌+◌, ◌/◌, subst, arith}
use Rattle.ados_pattern.proofs.Filling.{AreBuilt, columns-first, columns-more, filled}
use Rattle.ados_pattern.proofs.tables.Table.filled.Goals as goal

pub loop-group-init : goal.loop-group-init
loop-group-init c = rw c.new-more.ensures.items (columns-first c.args.rule.now c.args.text.now c.in_ok-first.first c.in_ok-first.ensures)

pub loop-group-preserved : goal.loop-group-preserved
loop-group-preserved c = rw c.in_ok-push.ensures.items (columns-more c.args.rule.now c.args.text.now (c.in_ok-first.first ∷ c.loop-group.more.items) c.in_ok-column.column c.loop-group.group c.loop-group.invariant c.in_ok-column.ensures)

pub returns : goal.returns
returns c = filled c.args.rule.now c.args.text.now (c.in_ok-first.first ∷ c.loop-group.more.items) (let e : c.loop-group.group ≡ length c.args.text.now / 64 + 1 = omega (arith, c.loop-group-test.false, c.loop-group.auto.group-end, c.loop-group.auto.group) in subst (λ k. AreBuilt c.args.rule.now c.args.text.now (c.in_ok-first.first ∷ c.loop-group.more.items) k) e c.loop-group.invariant)
