use Rattle.std.proofs.Common.{◌∙◌, Err, IsErrOf, ap, inl, inr, length, refl, rules, subst, sym}
use Rattle.std.specs.Prelude.{option_map}
use Rattle.ados_shell.specs.Drafts.{out_of}
use Rattle.ados_launch.specs.Gathering.{HasGatherResult}
use Rattle.ados_launch.specs.Schedule.{found_next}
use Rattle.ados_launch.specs.Session.{Moment, moment_of}
use Rattle.ados_launch.specs.Steps.{SessionState}
use Rattle.ados_launch.specs.declared.faults.IntakeFault.TheVariants.{NoMemory, Read as Unread}
use Rattle.ados_launch.proofs.Gathering.{appends-rest, gathers-both, part-later, part-rest, passed-place, refused-by, stops-when, undue}
use Rattle.ados_launch.proofs.session.Session.advance.Goals as goal

pub returns-in_default-clause-takes : goal.returns-in_default-clause-takes
returns-in_default-clause-takes g c = rw (← c.self.view_is) (record {
  written = c.in_ok-release.ensures.written;
  none_is = ap length c.release.ensures.none;
  takes = record {
    none = sym c.in_default.ensures.next;
    stays = rw (c.in_ok-release.ensures.honest.0, c.in_ok-release.ensures.honest.1) refl;
    round_is = c.next.ensures.round;
    taken_is = c.next.ensures.taken;
    held_is = refl;
    reports_are = refl;
  };
})

pub returns-in_err-release-2-clause-takes : goal.returns-in_err-release-2-clause-takes
returns-in_err-release-2-clause-takes g c =
    let part = rw c.show.ensures.contents at c.in_err-release-2.ensures.part in
    let at = c.take.ensures.at_once (c.is_due_before-is_due.ensures (undue _ _ _ _ c.release_if.ensures.due part)) in
    rw (← c.self.view_is)
    (stops-when _ _ _ _ c.from_residual-in_err-release-2.result _ c.from_residual-in_err-release-2.ensures.1
    (λ is. cc)
    (λ is. cc)
    (λ is. inl (record {
      world_is = c.in-Err.ensures.err;
      calls_are = at.0;
      gets = part-later _ _ _ _ _ c.in_ok-release_if.ensures.gathers part;
      cause = rw (c.show.ensures.faults, c.in_ok-release_if.ensures.honest.0, c.show.ensures.stalls, c.in_ok-release_if.ensures.honest.1) at c.in_err-release-2.ensures.cause;
      reads_well = at.1;
    }))
    (λ is. cc))

pub returns-in-Err-clause-takes : goal.returns-in-Err-clause-takes
returns-in-Err-clause-takes g c =
    let written = appends-rest _ _ _ _ _ c.in_ok-release_if.ensures.gathers (rw c.show.ensures.contents at c.in_ok-release-2.ensures.written) in
    let faults = c.in_ok-release-2.ensures.honest.0 ∙ (c.show.ensures.faults ∙ c.in_ok-release_if.ensures.honest.0) in
    let stalls = c.in_ok-release-2.ensures.honest.1 ∙ (c.show.ensures.stalls ∙ c.in_ok-release_if.ensures.honest.1) in
    let now : SessionState = record {
      schedule = c.next.new.self;
      held = c.take.new.self.held;
      children = c.take.new.self.children;
      reports = c.take.new.self.draft.reports.items;
      renamed = option_map (λ r. r.value) c.take.new.self.draft.renamed;
      gathered = c.release-in-Err.new.self;
    } in
    let before : Moment = moment_of g.S.Source.left g.S.Source.faults g.K.Sink.contents g.K.Sink.faults g.K.Sink.stalls g.L.Launcher.calls g.L.Launcher.is_full c.args.world.now c.args.reader.now c.args.writer.now c.args.launcher.now in
    let after : Moment = moment_of g.S.Source.left g.S.Source.faults g.K.Sink.contents g.K.Sink.faults g.K.Sink.stalls g.L.Launcher.calls g.L.Launcher.is_full c.take.new.world c.take.new.reader c.release-in-Err.new.writer c.take.new.launcher in
    subst (λ was. HasGatherResult was now before after (Err c.why_stopped.result)) c.self.view_is
    (refused-by _ now before after c.in-Err.fault _ c.why_stopped.ensures
    (λ is.
    let failed : IsErrOf c.take.result Unread = search rules in
    record {
      written = written;
      none_is = ap length c.release-in-Err.ensures.none;
      takes = record {
        next = found_next c.in-Some.next;
        next_is = sym c.in-Some.ensures.next;
        fails = c.take.ensures.read failed;
        not_taken = record { world_is = c.in-Err.ensures.err; contents_are = refl; writes_well = (faults, stalls) };
      };
    })
    (λ is.
    let failed : IsErrOf c.take.result NoMemory = search rules in
    record {
      written = written;
      none_is = ap length c.release-in-Err.ensures.none;
      takes = record {
        next = found_next c.in-Some.next;
        next_is = sym c.in-Some.ensures.next;
        lacks = c.take.ensures.memory failed;
        not_taken = record { world_is = c.in-Err.ensures.err; contents_are = refl; writes_well = (faults, stalls) };
      };
    }))

pub returns-in_err-add-clause-takes : goal.returns-in_err-add-clause-takes
returns-in_err-add-clause-takes g c =
    rw (← c.self.view_is)
    (stops-when _ _ _ _ c.from_residual-in_err-add.result _ c.from_residual-in_err-add.ensures.1
    (λ is. cc)
    (λ is. cc)
    (λ is. inr (record {
      next = found_next c.in-Some.next;
      next_is = sym c.in-Some.ensures.next;
      out = out_of c.take.new.self.draft;
      takes = c.in_default-take.ensures.took;
      agrees = c.in_default-take.ensures.agrees;
      gets = part-rest _ _ _ _ _ _ c.in_ok-release_if.ensures.gathers (rw (c.as_slice-2.ensures.value, c.heed_ends.ensures.contents, c.show.ensures.contents) at c.in_err-add.ensures.part);
      reports_are = refl;
      cause = rw (c.heed_ends.ensures.faults, c.show.ensures.faults, c.in_ok-release_if.ensures.honest.0, c.heed_ends.ensures.stalls, c.show.ensures.stalls, c.in_ok-release_if.ensures.honest.1) at c.in_err-add.ensures.cause;
      reads_well = c.in_default-take.ensures.honest;
    }))
    (λ is. cc))

pub invariant_of-self-2 : goal.invariant_of-self-2
invariant_of-self-2 g c =
    (rw c.pass.ensures (passed-place c.next.new.self c.args.world.now c.in-Some.next (rw c.next.ensures.round c.self.invariant.0) c.in-Some.ensures.may_come), c.take.ensures.few c.self.invariant.1)

pub returns-clause-takes : goal.returns-clause-takes
returns-clause-takes g c = rw (← c.self.view_is) (record {
  next = found_next c.in-Some.next;
  next_is = sym c.in-Some.ensures.next;
  out = out_of c.take.new.self.draft;
  takes = c.in_default-take.ensures.took;
  schedule_is = c.pass.ensures ∙ c.in-Some.ensures.passed;
  gathers = gathers-both _ _ _ _ _ _ _ c.in_ok-release_if.ensures.gathers (rw (c.as_slice-2.ensures.value, c.heed_ends.ensures.contents, c.show.ensures.contents) at c.in_ok-add.ensures.gathers);
  reports_are = refl;
  reads_well = c.in_default-take.ensures.honest;
  writes_well = (
    c.in_ok-add.ensures.honest.0 ∙ (c.heed_ends.ensures.faults ∙ (c.show.ensures.faults ∙ c.in_ok-release_if.ensures.honest.0)),
    c.in_ok-add.ensures.honest.1 ∙ (c.heed_ends.ensures.stalls ∙ (c.show.ensures.stalls ∙ c.in_ok-release_if.ensures.honest.1)),
  );
})

pub returns-clause-in_round : goal.returns-clause-in_round
returns-clause-in_round g c = rw c.pass.ensures (passed-place c.next.new.self c.args.world.now c.in-Some.next (rw c.next.ensures.round c.self.invariant.0) c.in-Some.ensures.may_come)
