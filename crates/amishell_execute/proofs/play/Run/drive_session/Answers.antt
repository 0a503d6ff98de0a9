use Rattle.std.proofs.Common.{rules, refl, arith, ap, ◌∙◌, ◌+◌, false, [], Ok, Err}
use Rattle.ados_launch.specs.declared.faults.DriveFault.TheVariants.{Write}
use Rattle.ados_launch.proofs.Deeding.{does-any}
use Rattle.ados_launch.proofs.Gathering.{gathering-written, gathers-by, gathers-none, stops-behind, stops-gathering, writes-by}
use Rattle.ados_launch.proofs.Stepping.{ends-nothing, finish-by, finished-over}
use Rattle.amishell_execute.specs.Between.{writer_view}
use Rattle.amishell_execute.specs.Playing.{playing_moment}
use Rattle.amishell_execute.proofs.DeedsGathering.{does-ends, does-nothing, does-over, does-part, does-ran, does-released, does-stops, does-taken, does-written}
use Rattle.amishell_execute.proofs.Driving.{DrivenAlone, alone-ends, alone-none, alone-released, alone-same, alone-step, cut-by, fault-driven}
use Rattle.amishell_execute.proofs.Pairs.{nothing_over}
use Rattle.amishell_execute.proofs.play.Run.drive_session.Goals as goal

pub loop-init : goal.loop-init
loop-init g c = record {
  reader = refl;
  writer = refl;
  count = rw c.requires.begins (omega arith);
  agrees = c.requires.agrees;
  does = does-nothing c.args.world.now (g.K.Sink.contents c.args.writer.now.inner) c.args.session.now.gathered c.requires.gathered;
  children = c.requires.children;
  share = refl;
  alone = λ none. alone-none _ c.args.session.now refl c.requires.begins c.requires.held c.requires.gathered c.requires.agrees;
}

pub loop-preserved : goal.loop-preserved
loop-preserved g c =
    let i = c.loop.invariant in
    let a = c.in_ok-attend.ensures.gathers in
    let f = c.in_ok-follow.ensures.gathers in
    let t = gathers-by c.attend.new.session c.advance.new.self _ _ c.in_ok-advance.field-0 c.if-not-branch.false c.in_ok-advance.ensures.takes in
    record {
      reader = ap (λ r. r.faults) c.follow.ensures.reader ∙ (c.in_ok-advance.ensures.reads ∙ (ap (λ r. r.faults) c.attend.ensures.reader ∙ i.reader));
      writer = f.faults_are ∙ (c.in_ok-advance.ensures.writes ∙ (a.faults_are ∙ i.writer));
      count = rw c.follow.ensures.session (search rules);
      agrees = rw c.follow.ensures.launcher c.in_ok-advance.ensures.agrees;
      does = does-released _ _ _ _ _ c.advance.new.self.gathered c.follow.new.session.gathered
          (does-taken c.args.world.now _ c.attend.new.session c.advance.new.self _ _
          (does-ran _ c.loop.world _ _ _ _ c.loop.session.gathered c.attend.new.session.gathered i.does c.attend.ensures.ran a.gathers) t) f.gathers;
      children = rw (c.follow.ensures.session, c.follow.ensures.launcher) c.advance.ensures.children;
      share = c.attend.ensures.share ∙ i.share;
      alone = λ none.
          let same = c.attend.ensures.alone (i.share ∙ none) in
          rw (c.follow.ensures.launcher, c.follow.ensures.reader)
          (alone-same _ _ _ (c.loop.counter + 1) _ c.follow.new.session refl c.follow.ensures.session
          (alone-released _ _ _ _ _ (c.loop.counter + 1) c.advance.new.self c.follow.new.session.gathered f.gathers f.faults_are f.stalls_are
          (alone-step _ _ _ c.loop.counter c.attend.new.session c.advance.new.self
          (rw (same.0, same.2, c.attend.ensures.reader)
          (alone-same _ _ _ c.loop.counter _ c.attend.new.session refl same.1
          (alone-released _ _ _ _ _ c.loop.counter c.loop.session c.attend.new.session.gathered a.gathers a.faults_are a.stalls_are (i.alone none))))
          t c.advance.ensures.stays c.in_ok-advance.ensures.agrees c.advance.ensures.in_round c.advance.ensures.few)));
    }

pub returns-in_err-attend-clause-does : goal.returns-in_err-attend-clause-does
returns-in_err-attend-clause-does g c =
    does-ends _ _ _ _ _ c.loop.session.gathered _ c.from_residual.result c.in_err-attend.field-0.0 c.from_residual.ensures.1
    (does-ran _ c.loop.world _ _ _ _ c.loop.session.gathered c.loop.session.gathered c.loop.invariant.does c.attend.ensures.ran (gathers-none _ c.loop.session.gathered)) c.in_err-attend.ensures.ends

pub returns-in_err-attend-clause-drives : goal.returns-in_err-attend-clause-drives
returns-in_err-attend-clause-drives g c none =
    let i = c.loop.invariant in
    let same = c.attend.ensures.alone (i.share ∙ none) in
    rw (same.0, same.2, c.attend.ensures.reader)
    (alone-ends c.args.self.now.turns c.loop.counter _ _ (writer_view g.K.Sink.contents g.K.Sink.faults g.K.Sink.stalls c.attend.new.writer.inner) c.loop.session c.from_residual.result c.in_err-attend.field-0.0
    c.from_residual.ensures.1 (omega (arith, c.loop-test.true)) (i.alone none) (rw (i.share ∙ none) at c.in_err-attend.ensures.ends))

pub returns-in_err-advance-clause-does : goal.returns-in_err-advance-clause-does
returns-in_err-advance-clause-does g c =
    rw (cut-by c.from_residual-in_err-advance.result c.in_err-advance.field-0.0 c.from_residual-in_err-advance.ensures.1)
    (does-stops c.args.world.now _ c.attend.new.session c.advance.new.self _ _ c.in_err-advance.field-0.0
    (does-ran _ c.loop.world _ _ _ _ c.loop.session.gathered c.attend.new.session.gathered c.loop.invariant.does c.attend.ensures.ran c.in_ok-attend.ensures.gathers.gathers)
    c.in_err-advance.ensures.takes)

pub returns-in_err-advance-clause-drives : goal.returns-in_err-advance-clause-drives
returns-in_err-advance-clause-drives g c none =
    let i = c.loop.invariant in
    let same = c.attend.ensures.alone (i.share ∙ none) in
    let e = c.in_ok-attend.ensures.gathers in
    let a : DrivenAlone (playing_moment g.K.Sink.contents g.K.Sink.faults g.K.Sink.stalls c.args.world.now c.args.self.now.reader c.args.writer.now.inner c.args.self.now.launcher)
    (playing_moment g.K.Sink.contents g.K.Sink.faults g.K.Sink.stalls c.attend.new.world c.attend.new.self.reader c.attend.new.writer.inner c.attend.new.self.launcher) c.loop.counter c.attend.new.session = rw (same.0, same.2, c.attend.ensures.reader)
    (alone-same _ _ _ c.loop.counter _ c.attend.new.session refl same.1
    (alone-released _ _ _ _ _ c.loop.counter c.loop.session c.attend.new.session.gathered e.gathers e.faults_are e.stalls_are (i.alone none))) in
    fault-driven c.from_residual-in_err-advance.result c.in_err-advance.field-0.0 _ c.from_residual-in_err-advance.ensures.1
    (stops-gathering c.args.self.now.turns c.loop.counter [] _ _ _ c.attend.new.session c.advance.new.self a.driven c.loop-test.true a.in_round c.advance.ensures.stays c.advance.ensures.few
    a.reads a.writes c.in_err-advance.field-0.0 c.in_err-advance.ensures.takes)

pub returns-then-not-branch-clause-does : goal.returns-then-not-branch-clause-does
returns-then-not-branch-clause-does g c =
    does-over c.args.world.now _ c.attend.new.session c.advance.new.self _ _
    (does-ran _ c.loop.world _ _ _ _ c.loop.session.gathered c.attend.new.session.gathered c.loop.invariant.does c.attend.ensures.ran c.in_ok-attend.ensures.gathers.gathers)
    (writes-by c.attend.new.session c.advance.new.self _ _ c.in_ok-advance.field-0 c.if-not-branch.true c.in_ok-advance.ensures.takes)

pub returns-then-not-branch-clause-over : goal.returns-then-not-branch-clause-over
returns-then-not-branch-clause-over g c =
    let t = writes-by c.attend.new.session c.advance.new.self _ _ c.in_ok-advance.field-0 c.if-not-branch.true c.in_ok-advance.ensures.takes in
    nothing_over c.attend.new.session c.advance.new.self _ _ c.advance.new.launcher.calls t.takes c.in_ok-advance.ensures.agrees c.end.ensures.shells

pub returns-then-not-branch-clause-drives : goal.returns-then-not-branch-clause-drives
returns-then-not-branch-clause-drives g c none =
    let i = c.loop.invariant in
    let same = c.attend.ensures.alone (i.share ∙ none) in
    let e = c.in_ok-attend.ensures.gathers in
    let a : DrivenAlone (playing_moment g.K.Sink.contents g.K.Sink.faults g.K.Sink.stalls c.args.world.now c.args.self.now.reader c.args.writer.now.inner c.args.self.now.launcher)
    (playing_moment g.K.Sink.contents g.K.Sink.faults g.K.Sink.stalls c.attend.new.world c.attend.new.self.reader c.attend.new.writer.inner c.attend.new.self.launcher) c.loop.counter c.attend.new.session = rw (same.0, same.2, c.attend.ensures.reader)
    (alone-same _ _ _ c.loop.counter _ c.attend.new.session refl same.1
    (alone-released _ _ _ _ _ c.loop.counter c.loop.session c.attend.new.session.gathered e.gathers e.faults_are e.stalls_are (i.alone none))) in
    let t = writes-by c.attend.new.session c.advance.new.self _ _ c.in_ok-advance.field-0 c.if-not-branch.true c.in_ok-advance.ensures.takes in
    ends-nothing c.args.self.now.turns c.loop.counter [] _ _ _ c.attend.new.session c.advance.new.self c.end.result
    (gathering-written _ _ _ _ _ [] c.loop.counter _ _ _ a.driven t.written) t.takes c.loop-test.true a.count
    c.end.ensures.events c.end.ensures.code c.end.ensures.result2 c.end.ensures.shells a.reads a.writes

pub returns-in_err-follow-clause-does : goal.returns-in_err-follow-clause-does
returns-in_err-follow-clause-does g c =
    let t = gathers-by c.attend.new.session c.advance.new.self _ _ c.in_ok-advance.field-0 c.if-not-branch.false c.in_ok-advance.ensures.takes in
    does-ends _ _ _ _ _ c.advance.new.self.gathered _ c.from_residual-in_err-follow.result c.in_err-follow.field-0.0 c.from_residual-in_err-follow.ensures.1
    (does-taken c.args.world.now _ c.attend.new.session c.advance.new.self _ _
    (does-ran _ c.loop.world _ _ _ _ c.loop.session.gathered c.attend.new.session.gathered c.loop.invariant.does c.attend.ensures.ran c.in_ok-attend.ensures.gathers.gathers) t)
    c.in_err-follow.ensures.ends

pub returns-in_err-follow-clause-drives : goal.returns-in_err-follow-clause-drives
returns-in_err-follow-clause-drives g c none =
    let i = c.loop.invariant in
    let same = c.attend.ensures.alone (i.share ∙ none) in
    let e = c.in_ok-attend.ensures.gathers in
    let t = gathers-by c.attend.new.session c.advance.new.self _ _ c.in_ok-advance.field-0 c.if-not-branch.false c.in_ok-advance.ensures.takes in
    let a : DrivenAlone (playing_moment g.K.Sink.contents g.K.Sink.faults g.K.Sink.stalls c.args.world.now c.args.self.now.reader c.args.writer.now.inner c.args.self.now.launcher)
    (playing_moment g.K.Sink.contents g.K.Sink.faults g.K.Sink.stalls c.attend.new.world c.attend.new.self.reader c.attend.new.writer.inner c.attend.new.self.launcher) c.loop.counter c.attend.new.session = rw (same.0, same.2, c.attend.ensures.reader)
    (alone-same _ _ _ c.loop.counter _ c.attend.new.session refl same.1
    (alone-released _ _ _ _ _ c.loop.counter c.loop.session c.attend.new.session.gathered e.gathers e.faults_are e.stalls_are (i.alone none))) in
    rw (c.follow.ensures.launcher, c.follow.ensures.reader)
    (alone-ends c.args.self.now.turns (c.loop.counter + 1) _ _ (writer_view g.K.Sink.contents g.K.Sink.faults g.K.Sink.stalls c.follow.new.writer.inner) c.advance.new.self c.from_residual-in_err-follow.result
    c.in_err-follow.field-0.0 c.from_residual-in_err-follow.ensures.1 (omega (arith, c.loop-test.true))
    (alone-step _ _ _ c.loop.counter c.attend.new.session c.advance.new.self a t c.advance.ensures.stays c.in_ok-advance.ensures.agrees c.advance.ensures.in_round c.advance.ensures.few)
    c.in_err-follow.ensures.ends)

pub returns-in_err-follow-clause-children : goal.returns-in_err-follow-clause-children
returns-in_err-follow-clause-children g c = rw (c.follow.ensures.session, c.follow.ensures.launcher) c.advance.ensures.children

pub returns-in_err-release-clause-does : goal.returns-in_err-release-clause-does
returns-in_err-release-clause-does g c =
    rw (cut-by c.from_residual-in_err-release.result Write c.from_residual-in_err-release.ensures.1)
    (does-part _ _ _ _ _ c.loop.session.gathered c.loop.invariant.does c.in_err-release.ensures.part)

pub returns-in_err-release-clause-drives : goal.returns-in_err-release-clause-drives
returns-in_err-release-clause-drives g c none =
    let a = c.loop.invariant.alone none in
    fault-driven c.from_residual-in_err-release.result Write _ c.from_residual-in_err-release.ensures.1
    (stops-behind c.args.self.now.turns c.loop.counter [] _ _ _ c.loop.session.schedule _ c.loop.session.gathered a.driven (omega arith) (λ e. e) refl refl
    c.in_err-release.ensures.part c.in_err-release.ensures.cause a.reads a.writes)

pub returns-in_err-finish-clause-does : goal.returns-in_err-finish-clause-does
returns-in_err-finish-clause-does g c =
    does-any _ _ _ _ _ (does-written _ _ _ _ _ c.loop.session.gathered c.loop.invariant.does c.in_ok-release.ensures.written)

pub returns-in_err-finish-clause-drives : goal.returns-in_err-finish-clause-drives
returns-in_err-finish-clause-drives g c none =
    let a = c.loop.invariant.alone none in
    let same = c.release.ensures.none in
    fault-driven c.from_residual-in_err-finish.result c.in_err-finish.field-0.0 _ c.from_residual-in_err-finish.ensures.1
    (finish-by c.args.self.now.turns c.loop.counter [] _ _ c.loop.session (Err c.in_err-finish.field-0.0)
    (gathering-written _ _ _ _ _ [] c.loop.counter _ _ _ a.driven c.in_ok-release.ensures.written) (omega arith) a.in_round a.count a.few a.reads
    (c.in_ok-release.ensures.honest.0 ∙ a.writes.0, c.in_ok-release.ensures.honest.1 ∙ a.writes.1)
    c.in_err-finish.ensures.end c.in_err-finish.ensures.over (rw same at c.in_err-finish.ensures.turns) c.in_err-finish.ensures.only)

pub returns-clause-does : goal.returns-clause-does
returns-clause-does g c = does-written _ _ _ _ _ c.loop.session.gathered c.loop.invariant.does c.in_ok-release.ensures.written

pub returns-clause-over : goal.returns-clause-over
returns-clause-over g c =
    finished-over c.loop.session c.loop.world c.loop.self.launcher.calls c.loop.invariant.agrees c.in_ok-finish.ensures.end.3 (rw c.release.ensures.none at c.in_ok-finish.ensures.over)

pub returns-clause-drives : goal.returns-clause-drives
returns-clause-drives g c none =
    let a = c.loop.invariant.alone none in
    let same = c.release.ensures.none in
    finish-by c.args.self.now.turns c.loop.counter [] _ _ c.loop.session (Ok c.in_ok-finish.field-0)
    (gathering-written _ _ _ _ _ [] c.loop.counter _ _ _ a.driven c.in_ok-release.ensures.written) (omega arith) a.in_round a.count a.few a.reads
    (c.in_ok-release.ensures.honest.0 ∙ a.writes.0, c.in_ok-release.ensures.honest.1 ∙ a.writes.1)
    (rw same at c.in_ok-finish.ensures.end) (rw same at c.in_ok-finish.ensures.over) (rw same at c.in_ok-finish.ensures.turns) c.in_ok-finish.ensures.only

pub returns-in_err-follow-clause-share : goal.returns-in_err-follow-clause-share
returns-in_err-follow-clause-share g c = c.attend.ensures.share ∙ c.loop.invariant.share

pub returns-in_err-attend-clause-share : goal.returns-in_err-attend-clause-share
returns-in_err-attend-clause-share g c = c.attend.ensures.share ∙ c.loop.invariant.share

pub returns-in_err-advance-clause-share : goal.returns-in_err-advance-clause-share
returns-in_err-advance-clause-share g c = c.attend.ensures.share ∙ c.loop.invariant.share

pub returns-then-not-branch-clause-share : goal.returns-then-not-branch-clause-share
returns-then-not-branch-clause-share g c = c.attend.ensures.share ∙ c.loop.invariant.share

pub returns-in_err-release-clause-share : goal.returns-in_err-release-clause-share
returns-in_err-release-clause-share g c = c.loop.invariant.share

pub returns-in_err-finish-clause-share : goal.returns-in_err-finish-clause-share
returns-in_err-finish-clause-share g c = c.loop.invariant.share

pub returns-clause-share : goal.returns-clause-share
returns-clause-share g c = c.loop.invariant.share
