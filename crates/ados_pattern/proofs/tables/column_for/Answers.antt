use Rattle.std.proofs.Common.{List, ℕ, subst}
use Rattle.ados_pattern.proofs.Filling.{HoldsRow, built-none, built-more}
use Rattle.ados_pattern.proofs.tables.column_for.Goals as goal

pub loop-start-init : goal.loop-start-init
loop-start-init c = rw c.in_ok-column.ensures.items (built-none c.args.rule.now c.args.text.now c.args.group)

pub loop-start-preserved : goal.loop-start-preserved
loop-start-preserved c =
    let P : List ℕ → Type 0 = λ words. HoldsRow c.args.rule.now c.args.text.now c.args.group words c.loop-start.start c.word_for-word.result in
    rw c.in_ok-push.ensures.items (built-more c.args.rule.now c.args.text.now c.args.group c.loop-start.column.items c.word_for-word.result c.loop-start.start c.loop-start.invariant (subst P c.deref.ensures.value c.word_for-word.ensures))
