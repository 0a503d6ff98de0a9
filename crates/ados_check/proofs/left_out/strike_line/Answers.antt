use Rattle.std.proofs.Common.{◌∙◌, ◌+◌, ◌-◌, ◌^◌, ◌<◌, ◌||◌, ap, arith, drop, map, sym}
use Rattle.ados_check.specs.LeftOut.{is_in_idle, shown, struck}
use Rattle.ados_check.proofs.ChangeLemmas.{leaves_less}
use Rattle.ados_check.proofs.StrikeLemmas.{drop_at, is_in_parts, part_left, struck_again}
use Rattle.ados_check.proofs.left_out.strike_line.Goals as goal

pub loop-one-preserved : goal.loop-one-preserved
loop-one-preserved c =
    let items = c.deref-one-items.result.now in
    let i = c.loop-one.one-index in
    let from = c.args.from in
    let at = c.saturating_add.result in
    leaves_less struck struck_again (is_in_idle at c.deref.result.now) (is_in_parts from (map shown (drop (i + 1) items))) (is_in_parts from (map shown (drop i items)))
    (is_in_parts from (map shown items)) c.args.script.now c.loop-one.script c.strike_options.new.script
    (λ k within.
    let fits = c.well_formed in
    let short : k < 2 ^ 64 - 1 = omega (arith, within) in
    ap (λ ones. is_in_parts from (map shown ones) k) (drop_at items i c.one-item.result c.loop-one-test.true c.one-item.is)
    ∙ part_left from at k c.one-item.result (drop (i + 1) items) c.saturating_add.ensures short
    ∙ ap (λ options. is_in_idle at options k || is_in_parts from (map shown (drop (i + 1) items)) k) (sym c.deref.ensures.value))
    c.loop-one.invariant c.strike_options.ensures
