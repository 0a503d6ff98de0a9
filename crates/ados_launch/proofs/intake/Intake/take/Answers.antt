use Rattle.std.proofs.Common.{arith, ◌≡◌, refl, subst, sym, ap, ◌∙◌}
use Rattle.ados_machine.specs.declared.events.Event.TheVariants.{Break, Turn}
use Rattle.ados_shell.specs.Drafts.{out_of}
use Rattle.ados_launch.specs.Schedule.{MayCome, found_next, next_at}
use Rattle.ados_launch.proofs.Accepts.{break-accepted, turn-accepted}
use Rattle.ados_launch.proofs.Agreeing.{answers-agree, given-agrees}
use Rattle.ados_launch.proofs.Places.{comes-turn}
use Rattle.ados_launch.proofs.Taking.{lacks-answer, lacks-event, lacks-line, same-place, took-at-answer, took-at-break, took-at-lines, took-at-turn}
use Rattle.ados_launch.proofs.intake.Intake.take.Goals as goal

pub give-requires : goal.give-requires
give-requires g c = break-accepted c.args.world.now c.in-Break.at.shell c.in-Break.at.kind (subst (MayCome c.args.world.now) c.in-Break.is c.requires.may_come)

pub returns-in_err-give-in-Break-clause-memory : goal.returns-in_err-give-in-Break-clause-memory
returns-in_err-give-in-Break-clause-memory g c failed = lacks-event c.args.world.now (found_next c.args.next) _ _ (g.L.Launcher.calls c.args.launcher.now)

pub returns-in_ok-give-in-Break-clause-took : goal.returns-in_ok-give-in-Break-clause-took
returns-in_ok-give-in-Break-clause-took g c =
    rw c.in-Break.is
    (took-at-break c.args.world.now _ _ (g.L.Launcher.is_full c.args.launcher.now) (g.L.Launcher.calls c.args.launcher.now) c.in-Break.at.shell c.in-Break.at.kind (out_of c.give.new.draft)
    c.in_ok-give-in-Break.ensures.response c.in_ok-give-in-Break.ensures.world)

pub returns-in_ok-give-in-Break-clause-agrees : goal.returns-in_ok-give-in-Break-clause-agrees
returns-in_ok-give-in-Break-clause-agrees g c =
    given-agrees c.args.world.now _ (Break c.in-Break.at.shell c.in-Break.at.kind) (out_of c.give.new.draft) (g.L.Launcher.calls c.args.launcher.now) c.requires.agrees refl
    c.in_ok-give-in-Break.ensures.response c.in_ok-give-in-Break.ensures.world

pub returns-in-Due-clause-took : goal.returns-in-Due-clause-took
returns-in-Due-clause-took g c =
    rw c.in-Due.is
    (took-at-lines c.args.world.now _ _ _ (g.L.Launcher.is_full c.args.launcher.now) (g.L.Launcher.calls c.args.launcher.now) c.in-Due.found.place (out_of c.take_line.new.self.draft) c.take_line.result (omega arith) c.take_line.ensures.took)

pub returns-in-Due-clause-memory : goal.returns-in-Due-clause-memory
returns-in-Due-clause-memory g c failed =
    let first : c.in-Due.found.place ≡ 0 = omega arith in
    lacks-line c.args.world.now (found_next c.args.next) _ _ _ _ (g.L.Launcher.calls c.args.launcher.now) (ap found_next c.in-Due.is ∙ ap next_at first)
    (c.take_line.ensures.memory_honest failed) (c.take_line.ensures.memory_unread failed)

pub give-requires-in-Due-2 : goal.give-requires-in-Due-2
give-requires-in-Due-2 g c =
    let may = subst (MayCome c.args.world.now) c.in-Due-2.is c.requires.may_come in
    let same = same-place c.args.next c.in-Due.found c.in-Due-2.found c.in-Due.is c.in-Due-2.is in
    turn-accepted c.args.world.now c.in-Due-2.found.place (sym (comes-turn c.args.world.now c.in-Due-2.found.place (omega (arith, same)) (omega arith)) ∙ may.1)

pub returns-in_err-give-in-Due-2-clause-memory : goal.returns-in_err-give-in-Due-2-clause-memory
returns-in_err-give-in-Due-2-clause-memory g c failed = lacks-event c.args.world.now (found_next c.args.next) _ _ (g.L.Launcher.calls c.args.launcher.now)

pub returns-in_ok-give-in-Due-2-clause-took : goal.returns-in_ok-give-in-Due-2-clause-took
returns-in_ok-give-in-Due-2-clause-took g c =
    let same = same-place c.args.next c.in-Due.found c.in-Due-2.found c.in-Due.is c.in-Due-2.is in
    rw c.in-Due-2.is
    (took-at-turn c.args.world.now _ _ (g.L.Launcher.is_full c.args.launcher.now) (g.L.Launcher.calls c.args.launcher.now) c.in-Due-2.found.place (out_of c.give-in-Due-2.new.draft) (omega (arith, same)) (omega arith)
    c.in_ok-give-in-Due-2.ensures.response c.in_ok-give-in-Due-2.ensures.world)

pub returns-in_ok-give-in-Due-2-clause-agrees : goal.returns-in_ok-give-in-Due-2-clause-agrees
returns-in_ok-give-in-Due-2-clause-agrees g c =
    given-agrees c.args.world.now _ (Turn c.in-Due-2.found.place) (out_of c.give-in-Due-2.new.draft) (g.L.Launcher.calls c.args.launcher.now) c.requires.agrees refl
    c.in_ok-give-in-Due-2.ensures.response c.in_ok-give-in-Due-2.ensures.world

pub returns-in_err-answer-in-Due-3-clause-memory : goal.returns-in_err-answer-in-Due-3-clause-memory
returns-in_err-answer-in-Due-3-clause-memory g c failed =
    let may = subst (MayCome c.args.world.now) c.in-Due-3.is c.requires.may_come in
    let same = same-place c.args.next c.in-Due-2.found c.in-Due-3.found c.in-Due-2.is c.in-Due-3.is in
    rw c.in-Due-3.is
    (lacks-answer c.args.world.now _ _ (g.L.Launcher.is_full c.args.launcher.now) (g.L.Launcher.is_full c.answer.new.launcher) (g.L.Launcher.calls c.args.launcher.now) (g.L.Launcher.calls c.answer.new.launcher) c.in-Due-3.found.place _
    (omega (arith, same)) may.1 (rw c.shell_answered.ensures at c.answer.ensures.answers))

pub returns-in_ok-answer-in-Due-3-clause-took : goal.returns-in_ok-answer-in-Due-3-clause-took
returns-in_ok-answer-in-Due-3-clause-took g c =
    let may = subst (MayCome c.args.world.now) c.in-Due-3.is c.requires.may_come in
    let same = same-place c.args.next c.in-Due-2.found c.in-Due-3.found c.in-Due-2.is c.in-Due-3.is in
    rw c.in-Due-3.is
    (took-at-answer c.args.world.now _ _ (g.L.Launcher.is_full c.args.launcher.now) (g.L.Launcher.is_full c.answer.new.launcher) (g.L.Launcher.calls c.args.launcher.now) (g.L.Launcher.calls c.answer.new.launcher) c.in-Due-3.found.place (out_of c.answer.new.draft)
    (omega (arith, same)) may.1 (rw c.shell_answered.ensures at c.in_ok-answer-in-Due-3.ensures.answers))

pub returns-in_ok-answer-in-Due-3-clause-agrees : goal.returns-in_ok-answer-in-Due-3-clause-agrees
returns-in_ok-answer-in-Due-3-clause-agrees g c =
    answers-agree c.args.world.now _ _ (g.L.Launcher.is_full c.args.launcher.now) (g.L.Launcher.is_full c.answer.new.launcher) (g.L.Launcher.calls c.args.launcher.now) (g.L.Launcher.calls c.answer.new.launcher) (out_of c.answer.new.draft)
    c.answer.ensures.sane c.requires.agrees c.in_ok-answer-in-Due-3.ensures.answers
