use Rattle.std.proofs.Common.{◌≡◌, ◌∙◌, ◌+◌, suc, ap, arith, get_or, length, rules, slice_set, sym}
use Rattle.ados_check.specs.Marks.{marked}
use Rattle.ados_check.proofs.MarkLemmas.{all_marked, marked_from, one_marked}
use Rattle.ados_check.proofs.marks.mark.Goals as goal

pub loop-byte-preserved : goal.loop-byte-preserved
loop-byte-preserved c =
    let now = c.loop-byte.script in
    let i = c.loop-byte.byte-index in
    let next : i + 1 ≡ suc i = omega arith in
    let inside = c.loop-byte-test.true in
    let length-is = c.loop-byte.auto.script in
    let is : c.marked.result ≡ marked (get_or now i 0) = search rules in
    ap (λ n. marked_from n (slice_set now i c.marked.result)) next ∙ one_marked now i c.marked.result 0 (omega (arith, inside, length-is)) is ∙ c.loop-byte.invariant

pub returns : goal.returns
returns c =
    let now = c.loop-byte.script in
    let whole : length now ≡ c.loop-byte.byte-index = omega (arith, c.loop-byte-test.false, c.loop-byte.auto.script, c.loop-byte.auto.byte-index-end) in
    sym (all_marked now) ∙ ap (λ n. marked_from n now) whole ∙ c.loop-byte.invariant
