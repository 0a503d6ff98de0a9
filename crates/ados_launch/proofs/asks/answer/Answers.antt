use Rattle.std.proofs.Common.{rules}
use Rattle.ados_machine.proofs.ChildLemmas.{fitting-accepted}
use Rattle.ados_launch.proofs.Agreeing.{state-asked, table-asked}
use Rattle.ados_launch.proofs.asks.answer.Goals as goal

pub ask-answer-requires-clause-state : goal.ask-answer-requires-clause-state
ask-answer-requires-clause-state g c = state-asked c.args.world.now c.args.number c.in-Some.request.now (g.L.Launcher.calls c.args.launcher.now) c.pending.ensures.sane c.requires.agrees (search rules)

pub give-requires : goal.give-requires
give-requires g c = fitting-accepted c.args.world.now c.args.number c.in-Some.request.now c.ask-answer.result (search rules) c.ask-answer.ensures.lists.0

pub returns-clause-children : goal.returns-clause-children
returns-clause-children g c =
    rw c.from.ensures (table-asked c.args.world.now c.args.number _ _ _ c.in-Some.request.now c.ask-answer.result _ _ _ c.pending.ensures.sane c.requires.agrees c.requires.children (search rules) (search rules) c.ask-answer.ensures c.runs_after.ensures)
