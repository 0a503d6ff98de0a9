use Rattle.std.proofs.Common.{◌≤◌, ◌*◌, ℕ, ◌∙◌, ap, arith, bit_and}
use Rattle.ados_pattern.specs.Table.{table_word}
use Rattle.ados_pattern.proofs.Bits.{set-zero}
use Rattle.ados_pattern.proofs.Middles.{led-all, led-more}
use Rattle.ados_pattern.proofs.tables.through.Goals as goal

pub loop-group-init : goal.loop-group-init
loop-group-init c = λ b l. set-zero b

pub loop-group-preserved : goal.loop-group-preserved
loop-group-preserved c = λ b l.
    led-more c.args.first.now c.args.start c.args.limit c.loop-group.group c.loop-group.word (bit_and c.word_at.result c.below.result) c.below.result c.led_to-word.result b c.args.rest.now l
    (c.loop-group.invariant b l)
    (ap (λ (n : ℕ). bit_and n c.below.result) (c.word_at.ensures ∙ ap (λ words. table_word words c.args.start) c.column.ensures))
    c.below.ensures
    (c.led_to-word.ensures b l)

pub returns : goal.returns
returns c =
    let past : c.args.limit ≤ c.loop-group.group * 64 = omega (arith, c.loop-group-test.false, c.loop-group.auto.group-end) in
    λ b l. c.loop-group.invariant b l ∙ led-all c.args.first.now c.args.start c.args.limit c.loop-group.group b c.args.rest.now past
