use Rattle.std.proofs.Common.{◌||◌, sym, ◌∙◌, ap}
use Rattle.ados_pattern.specs.Table.{is_set, leads}
use Rattle.ados_pattern.proofs.Bits.{set-zero}
use Rattle.ados_pattern.proofs.Middles.{either-false, leads-more, leads-none}
use Rattle.ados_pattern.proofs.words.led_to.Goals as goal

pub loop-left-init : goal.loop-left-init
loop-left-init c = λ b l. ap (λ x. x || leads c.args.middles c.args.group c.args.rest.now b) (set-zero b)

pub loop-left-preserved : goal.loop-left-preserved
loop-left-preserved c = λ b l.
    leads-more c.loop-left.word c.word_at-word.result c.loop-left.left c.without-left.result c.lowest-middle.result c.args.group c.args.rest.now b
    c.lowest-middle.ensures.bit c.lowest-middle.ensures.set c.without-left.ensures.bits c.word_at-word.ensures
    ∙ c.loop-left.invariant b l

pub returns : goal.returns
returns c = λ b l.
    sym (either-false (is_set c.loop-left.word b))
    ∙ ap (λ x. is_set c.loop-left.word b || x) (sym (leads-none c.args.group c.args.rest.now b))
    ∙ ap (λ n. is_set c.loop-left.word b || leads n c.args.group c.args.rest.now b) (sym c.loop-left-test.false)
    ∙ c.loop-left.invariant b l
