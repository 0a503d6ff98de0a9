use Rattle.std.proofs.Common.{rules, refl, arith, ◌∙◌, ◌+◌, ap}
use Rattle.ados_launch.proofs.Gathering.{gathered-counted, gathering-more, gathering-none, gathering-written, gathers-by, stops-behind, stops-gathering, writes-by}
use Rattle.ados_launch.proofs.Stepping.{ends-nothing, finish-by, stops-at}
use Rattle.ados_launch.specs.declared.faults.DriveFault.TheVariants.{Write}
use Rattle.ados_launch.proofs.driver.Drive.run_session.Goals as goal

pub loop-init : goal.loop-init
loop-init g c = record {
  reader = refl;
  writer = refl;
  stalls = refl;
  in_round = rw c.requires.begins (omega arith);
  count = rw c.requires.begins refl;
  few = rw c.requires.held (omega arith);
  fresh_reader = λ none. refl;
  fresh_writer = λ none. refl;
  fresh_gathered = λ none. c.requires.gathered;
  agrees = c.requires.agrees;
  children = c.requires.children;
  driven = gathering-none _ c.args.self.now.breaks.now _ _ _ (rw c.requires.held (search rules)) c.requires.begins c.requires.agrees c.requires.gathered;
}

pub loop-preserved : goal.loop-preserved
loop-preserved g c =
    let i = c.loop.invariant in
    let t = gathers-by c.loop.session c.advance.new.self _ _ c.in_ok-advance.field-0 c.if-not-branch.false c.in_ok-advance.ensures.takes in
    record {
      reader = c.in_ok-advance.ensures.reads ∙ i.reader;
      writer = c.in_ok-advance.ensures.writes ∙ i.writer;
      stalls = t.writes_well.1 ∙ i.stalls;
      in_round = c.advance.ensures.in_round;
      count = gathered-counted c.loop.session c.advance.new.self _ _ t ∙ ap (λ n. n + 1) i.count;
      few = c.advance.ensures.few;
      fresh_reader = λ none. absurd (omega (arith, none));
      fresh_writer = λ none. absurd (omega (arith, none));
      fresh_gathered = λ none. absurd (omega (arith, none));
      agrees = c.in_ok-advance.ensures.agrees;
      children = c.advance.ensures.children;
      driven = gathering-more _ _ _ c.args.self.now.breaks.now c.loop.counter c.loop.session c.advance.new.self i.driven t c.advance.ensures.stays c.in_ok-advance.ensures.agrees;
    }

pub returns-in_err-advance-clause-comes_to : goal.returns-in_err-advance-clause-comes_to
returns-in_err-advance-clause-comes_to g c =
    let i = c.loop.invariant in
    stops-at c.args.self.now.turns c.args.self.now.breaks.now _ _ c.from_residual.result c.in_err-advance.field-0.0 c.from_residual.ensures.1
    (stops-gathering c.args.self.now.turns c.loop.counter c.args.self.now.breaks.now _ _ _ c.loop.session c.advance.new.self i.driven c.loop-test.true i.in_round c.advance.ensures.stays c.advance.ensures.few
    i.reader (i.writer, i.stalls) c.in_err-advance.field-0.0 c.in_err-advance.ensures.takes)

pub returns-then-not-branch-clause-comes_to : goal.returns-then-not-branch-clause-comes_to
returns-then-not-branch-clause-comes_to g c =
    let i = c.loop.invariant in
    let t = writes-by c.loop.session c.advance.new.self _ _ c.in_ok-advance.field-0 c.if-not-branch.true c.in_ok-advance.ensures.takes in
    ends-nothing c.args.self.now.turns c.loop.counter c.args.self.now.breaks.now _ _ _ c.loop.session c.advance.new.self c.end.result
    (gathering-written _ _ _ _ _ c.args.self.now.breaks.now c.loop.counter _ _ _ i.driven t.written) t.takes c.loop-test.true i.count
    c.end.ensures.events c.end.ensures.code c.end.ensures.result2 c.end.ensures.shells i.reader (i.writer, i.stalls)

pub returns-in_err-release-clause-comes_to : goal.returns-in_err-release-clause-comes_to
returns-in_err-release-clause-comes_to g c =
    let i = c.loop.invariant in
    stops-at c.args.self.now.turns c.args.self.now.breaks.now _ _ c.from_residual-in_err-release.result Write c.from_residual-in_err-release.ensures.1
    (stops-behind c.args.self.now.turns c.loop.counter c.args.self.now.breaks.now _ _ _ c.loop.session.schedule _ c.loop.session.gathered i.driven (omega arith) (λ e. e) refl refl
    c.in_err-release.ensures.part c.in_err-release.ensures.cause i.reader (i.writer, i.stalls))

pub returns-clause-comes_to : goal.returns-clause-comes_to
returns-clause-comes_to g c =
    let i = c.loop.invariant in
    let same = c.release.ensures.none in
    finish-by c.args.self.now.turns c.loop.counter c.args.self.now.breaks.now _ _ c.loop.session c.finish.result
    (gathering-written _ _ _ _ _ c.args.self.now.breaks.now c.loop.counter _ _ _ i.driven c.in_ok-release.ensures.written) (omega arith) i.in_round i.count i.few i.reader
    (c.in_ok-release.ensures.honest.0 ∙ i.writer, c.in_ok-release.ensures.honest.1 ∙ i.stalls)
    (rw same at c.finish.ensures.end) (rw same at c.finish.ensures.over) (rw same at c.finish.ensures.turns) c.finish.ensures.only
