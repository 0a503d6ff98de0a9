use Rattle.std.proofs.Common.{rules, ◌≡◌, refl}
use Rattle.ados_machine.proofs.ChildLemmas.{fitting-accepted}
use Rattle.ados_machine.specs.declared.events.Event.TheVariants.{Turn}
use Rattle.ados_shell.specs.Drafts.{out_of}
use Rattle.ados_launch.proofs.Agreeing.{given-agrees, state-asked, untaken-agrees}
use Rattle.ados_launch.proofs.AloneLemmas.{answer-takes, turn-on, turn-takes}
use Rattle.ados_launch.proofs.alone.next_event.Goals.{in-Ok, in-Err}
use Rattle.ados_launch.proofs.alone.next_event.Goals as goal

pub give-requires : goal.give-requires
give-requires g c = turn-on c.args.world.now c.args.number c.requires.number c.requires.runs (search rules)

pub ask-requires-clause-state : goal.ask-requires-clause-state
ask-requires-clause-state g c =
    state-asked c.args.world.now c.args.number c.in-Some.request.now (g.L.Launcher.calls c.args.launcher.now) c.pending.ensures.sane c.requires.agrees (search rules)

pub give-requires-2 : goal.give-requires-2
give-requires-2 g c = fitting-accepted c.args.world.now c.args.number c.in-Some.request.now c.ask.result (search rules) c.ask.ensures.lists.0

pub returns-in-Ok-default-clause-event : goal.returns-in-Ok-default-clause-event
returns-in-Ok-default-clause-event g c =
    answer-takes c.args.world.now c.give-2.new.world c.args.number (g.L.Launcher.is_full c.args.launcher.now) _ _ _ c.in-Some.request.now c.ask.result (out_of c.give-2.new.draft)
    (search rules) (search rules) c.in-Ok-default.ensures.response c.in-Ok-default.ensures.world

pub returns-in-Ok-default-clause-agrees : goal.returns-in-Ok-default-clause-agrees
returns-in-Ok-default-clause-agrees g c =
    rw c.in-Ok-default.ensures.world
    (untaken-agrees c.args.world.now c.args.number (g.L.Launcher.is_full c.args.launcher.now) (g.L.Launcher.is_full c.ask.new.launcher) (g.L.Launcher.calls c.args.launcher.now) (g.L.Launcher.calls c.ask.new.launcher) c.in-Some.request.now c.ask.result (out_of c.give-2.new.draft)
    c.pending.ensures.sane c.requires.agrees (search rules) (search rules) c.in-Ok-default.ensures.response)

pub returns-in-Err-Answer-clause-agrees_after : goal.returns-in-Err-Answer-clause-agrees_after
returns-in-Err-Answer-clause-agrees_after g c =
    let same : c.in-Err-Answer.answer ≡ c.ask.result = search rules in
    rw (c.in-Err-Answer.ensures.err, same) (λ out is.
    untaken-agrees c.args.world.now c.args.number (g.L.Launcher.is_full c.args.launcher.now) (g.L.Launcher.is_full c.ask.new.launcher) (g.L.Launcher.calls c.args.launcher.now) (g.L.Launcher.calls c.ask.new.launcher) c.in-Some.request.now c.ask.result out
    c.pending.ensures.sane c.requires.agrees (search rules) (search rules) is)

pub returns-in_default-clause-event : goal.returns-in_default-clause-event
returns-in_default-clause-event g c =
    elim c.match-give.branch [
      | in-Ok w ↦ rw w.result-is
          (turn-takes c.args.world.now c.give.new.world c.args.number (g.L.Launcher.is_full c.args.launcher.now) (g.L.Launcher.calls c.args.launcher.now) (out_of c.give.new.draft)
          (search rules) w.in-Ok.ensures.response w.in-Ok.ensures.world)
      | in-Err w ↦ rw w.result-is tt
    ]

pub returns-in_default-clause-agrees : goal.returns-in_default-clause-agrees
returns-in_default-clause-agrees g c =
    elim c.match-give.branch [
      | in-Ok w ↦ rw w.result-is
          (given-agrees c.args.world.now c.give.new.world (Turn c.args.number) (out_of c.give.new.draft) (g.L.Launcher.calls c.args.launcher.now)
          c.requires.agrees refl w.in-Ok.ensures.response w.in-Ok.ensures.world)
      | in-Err w ↦ rw w.result-is tt
    ]
