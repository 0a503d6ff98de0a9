use Rattle.ados_launch.proofs.Gathering.{gathers-then, on-err, on-ok, part-then}
use Rattle.ados_launch.proofs.gathered.Gathered.add.Goals as goal

pub returns-in_ok-release-clause-gathers : goal.returns-in_ok-release-clause-gathers
returns-in_ok-release-clause-gathers g c =
    let kept = c.hold.ensures.none c.if-hold.false in
    rw c.release.ensures.none (on-ok c.write_whole.result (gathers-then _ _ _ c.args.self.now c.args.bytes.now (rw kept at c.in_ok-release.ensures.written)) c.write_whole.ensures.whole)

pub returns-in_ok-release-clause-part : goal.returns-in_ok-release-clause-part
returns-in_ok-release-clause-part g c =
    let kept = c.hold.ensures.none c.if-hold.false in
    on-err c.write_whole.result (part-then _ _ _ c.args.self.now c.args.bytes.now (rw kept at c.in_ok-release.ensures.written)) c.write_whole.ensures.front
