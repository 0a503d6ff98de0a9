use Rattle.std.proofs.Common.{◌≡◌, true, false, rules, arith, take, ◌∙◌}
use Rattle.ados_session.proofs.LineLemmas.{record_taken, records_free, records_rise}
use Rattle.ados_session.proofs.recordings.read_records.Goals as goal

pub returns-then-not-branch-clause-fault : goal.returns-then-not-branch-clause-fault
returns-then-not-branch-clause-fault c =
    let l = c.loop-place in
    let taken = record_taken c.args.form c.args.lines.now l.place c.index-lines-place.result l.recording c.take.new.self c.in_ok-take.field-0 c.loop-place-test.true c.index-lines-place.is l.invariant.0 l.invariant.1
    c.in_ok-take.ensures.recording c.in_ok-take.ensures.good in
    let bad : c.in_ok-take.field-0 ≡ false = search rules in
    (l.place, omega arith, (c.loop-place-test.true, l.invariant.0, taken.0 ∙ bad))

pub loop-place-preserved : goal.loop-place-preserved
loop-place-preserved c =
    let l = c.loop-place in
    let taken = record_taken c.args.form c.args.lines.now l.place c.index-lines-place.result l.recording c.take.new.self c.in_ok-take.field-0 c.loop-place-test.true c.index-lines-place.is l.invariant.0 l.invariant.1
    c.in_ok-take.ensures.recording c.in_ok-take.ensures.good in
    let good : c.in_ok-take.field-0 ≡ true = search rules in
    (taken.0 ∙ good, taken.1)

pub returns-clause-free : goal.returns-clause-free
returns-clause-free c = records_free c.args.form (take c.loop-place.place c.args.lines.now) c.loop-place.recording c.loop-place.invariant.0 c.loop-place.invariant.1

pub returns-clause-rising : goal.returns-clause-rising
returns-clause-rising c = records_rise c.args.form (take c.loop-place.place c.args.lines.now) c.loop-place.recording c.loop-place.invariant.0 c.loop-place.invariant.1

pub take-requires-clause-free : goal.take-requires-clause-free
take-requires-clause-free c = records_free c.args.form (take c.loop-place.place c.args.lines.now) c.loop-place.recording c.loop-place.invariant.0 c.loop-place.invariant.1

pub take-requires-clause-rising : goal.take-requires-clause-rising
take-requires-clause-rising c = records_rise c.args.form (take c.loop-place.place c.args.lines.now) c.loop-place.recording c.loop-place.invariant.0 c.loop-place.invariant.1
