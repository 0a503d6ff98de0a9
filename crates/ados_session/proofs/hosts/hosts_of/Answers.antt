use Rattle.std.proofs.Common.{◌≡◌, true, false, rules, arith, take, ◌∙◌}
use Rattle.ados_session.proofs.LineLemmas.{host_taken, hosts_free}
use Rattle.ados_session.proofs.hosts.hosts_of.Goals as goal

pub returns-then-not-branch-clause-fault : goal.returns-then-not-branch-clause-fault
returns-then-not-branch-clause-fault c =
    let l = c.loop-place in
    let taken = host_taken c.args.dialect c.args.lines.now l.place c.index-lines-place.result l.hosts.items c.take_line.new.hosts.items c.in_ok-take_line.field-0 c.loop-place-test.true c.index-lines-place.is l.invariant.0 l.invariant.1
    c.in_ok-take_line.ensures.hosts c.in_ok-take_line.ensures.good in
    let bad : c.in_ok-take_line.field-0 ≡ false = search rules in
    (l.place, omega arith, (c.loop-place-test.true, l.invariant.0, taken.0 ∙ bad))

pub loop-place-preserved : goal.loop-place-preserved
loop-place-preserved c =
    let l = c.loop-place in
    let taken = host_taken c.args.dialect c.args.lines.now l.place c.index-lines-place.result l.hosts.items c.take_line.new.hosts.items c.in_ok-take_line.field-0 c.loop-place-test.true c.index-lines-place.is l.invariant.0 l.invariant.1
    c.in_ok-take_line.ensures.hosts c.in_ok-take_line.ensures.good in
    let good : c.in_ok-take_line.field-0 ≡ true = search rules in
    (taken.0 ∙ good, taken.1)

pub returns-clause-free : goal.returns-clause-free
returns-clause-free c = hosts_free c.args.dialect (take c.loop-place.place c.args.lines.now) c.loop-place.hosts.items c.loop-place.invariant.0 c.loop-place.invariant.1
