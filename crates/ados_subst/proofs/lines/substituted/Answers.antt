use Rattle.std.proofs.Common.{arith, ◌+◌}
use Rattle.std.proofs.lemmas.List.{take_rest}
use Rattle.ados_subst.specs.References.{reference_value}
use Rattle.ados_subst.specs.Lines.{first_segment, segment_tail_len, segment_text}
use Rattle.ados_items.proofs.SegmentLemmas.{taken-one, segment-put}
use Rattle.ados_subst.proofs.LineLemmas.{all-put}
use Rattle.ados_subst.proofs.lines.substituted.Goals as goal
use Rattle.ados_subst.proofs.lines.substituted.Goals.{then-taken-gt0, else-taken-gt0+in_ok-taken}

pub loop-place-preserved : goal.loop-place-preserved
loop-place-preserved c =
    let m = c.args.above.now.marks in
    let r = reference_value c.args.above.now c.args.process.now in
    elim c.if-taken-gt0.branch [
      | then-taken-gt0 w ↦
          rw (w.text-is, w.taken-is) (
            taken-one (first_segment m r) segment_tail_len segment_text _ _ _ _ c.args.line.now 0 w.if-taken-gt0.true c.loop-place-test.true c.loop-place.invariant.0,
            c.next_place-ket.ensures.value,
            c.next_place-dollar.ensures.value,
          )
      | else-taken-gt0+in_ok-taken w ↦
          rw (w.text-is, w.taken-is) (
            segment-put (first_segment m r) segment_tail_len segment_text _ _ _ _ _ _ c.args.line.now _ 0 c.loop-place-test.true
                (take_rest c.args.line.now (c.loop-place.place + 1))
                (omega (arith, w.if-taken-gt0.false)) c.loop-place.invariant.0 w.in_ok-taken.ensures.0 w.in_ok-taken.ensures.1,
            c.next_place-ket.ensures.value,
            c.next_place-dollar.ensures.value,
          )
    ]

pub returns : goal.returns
returns c =
    let m = c.args.above.now.marks in
    let r = reference_value c.args.above.now c.args.process.now in
    all-put m r _ _ _ _ _ c.loop-place-test.false c.loop-place.invariant.0
