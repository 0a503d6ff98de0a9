use Rattle.std.proofs.Common.{arith, ◌+◌}
use Rattle.std.proofs.lemmas.List.{take_rest}
use Rattle.ados_line.specs.declared.letters.Letter.TheVariants.{Plain}
use Rattle.ados_line.specs.Values.{visible_variables, first_segment, later_letter_count, text_of_segment}
use Rattle.ados_items.proofs.SegmentLemmas.{taken-one, segment-put}
use Rattle.ados_line.proofs.ValueLemmas.{all-put}
use Rattle.ados_line.proofs.values.put_values.Goals as goal
use Rattle.ados_line.proofs.values.put_values.Goals.{then-taken-gt0, else-taken-gt0+in_ok-taken}

pub loop-place-preserved : goal.loop-place-preserved
loop-place-preserved c =
    let v = visible_variables c.args.scope.now in record {
      text = elim c.if-taken-gt0.branch [
        | then-taken-gt0 w ↦
            rw (w.text-is, w.taken-is)
            (taken-one (first_segment v) later_letter_count text_of_segment _ _ _ _ c.args.letters.now (Plain 0) w.if-taken-gt0.true c.loop-place-test.true c.loop-place.invariant.text)
        | else-taken-gt0+in_ok-taken w ↦
            rw (w.text-is, w.taken-is)
            (segment-put (first_segment v) later_letter_count text_of_segment _ _ _ _ _ _ c.args.letters.now _ (Plain 0) c.loop-place-test.true (take_rest c.args.letters.now (c.loop-place.place + 1)) (omega (arith, w.if-taken-gt0.false)) c.loop-place.invariant.text
            w.in_ok-taken.ensures.0 w.in_ok-taken.ensures.1)
      ];
      short = grind (arith, c.if-as_bytes-gt-LINE_BYTES.false, c.as_bytes.ensures.value);
    }

pub returns : goal.returns
returns c =
    let v = visible_variables c.args.scope.now in
    all-put v _ _ _ _ _ c.loop-place-test.false c.loop-place.invariant.short c.loop-place.invariant.text
