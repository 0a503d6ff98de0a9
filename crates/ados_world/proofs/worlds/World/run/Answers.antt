use Rattle.std.proofs.Common.{◌≡◌, ◌∙◌, ◌+◌, ◌++◌, ◌∷◌, [], take, ap, sym, arith, rules}
use Rattle.std.proofs.lemmas.Grind.{common_steps}
use Rattle.std.proofs.lemmas.List.{take_more}
use Rattle.ados_machine.specs.Kept.{HasAllCodes}
use Rattle.ados_machine.proofs.EarlyLemmas.{scripts-end-early, frames-give-back}
use Rattle.ados_machine.proofs.QueueLemmas.{lines-in-order}
use Rattle.ados_machine.proofs.KeptLemmas.{last-codes-stay}
use Rattle.ados_machine.proofs.ReportLemmas.{reports-by}
use Rattle.ados_machine.proofs.RunLemmas.{Runs-more, whole-run}
use Rattle.ados_machine.proofs.Traces.{frames-hold, limits-hold}
use Rattle.ados_machine.proofs.Ends.{reports-hold}
use Rattle.ados_machine.proofs.Erased.{quiet-shells}
use Rattle.ados_machine.proofs.FailedStarts.{starts-leave-nothing}
use Rattle.ados_world.proofs.BrokenLemmas.{breaks-end-in}
use Rattle.ados_world.proofs.worlds.World.run.Goals as goal

pub loop-event-preserved : goal.loop-event-preserved
loop-event-preserved c =
    let events = c.args.events.now in
    let i = c.loop-event.event-index in
    let more : take (i + 1) events ≡ take i events ++ c.event-item.result ∷ [] =
    take_more events i c.event-item.result c.loop-event-test.true ∙ ap (λ e. take i events ++ e ∷ []) (sym c.event-item.is) in
    record {
      run =
          rw (more, c.in-Ok-push.ensures.items, c.step-out.ensures.world)
          (Runs-more _ _ _ _ _ _ c.loop-event.invariant.run c.step-out.ensures.response);
      room = grind (arith, common_steps);
      len = grind (arith, common_steps);
    }

pub returns-clause-early : goal.returns-clause-early
returns-clause-early c =
    let run = whole-run c.args.self c.args.events.now c.loop-event.outs.items c.loop-event.self c.loop-event.event-index (grind (arith, common_steps)) c.loop-event.invariant.run in
    rw c.from_vec.ensures (scripts-end-early c.args.self c.args.events.now c.loop-event.outs.items c.loop-event.self run (rw c.self.view_is at c.self.invariant))

pub returns-clause-back : goal.returns-clause-back
returns-clause-back c =
    let run = whole-run c.args.self c.args.events.now c.loop-event.outs.items c.loop-event.self c.loop-event.event-index (grind (arith, common_steps)) c.loop-event.invariant.run in
    rw c.from_vec.ensures (frames-give-back c.args.self c.args.events.now c.loop-event.outs.items c.loop-event.self run (rw c.self.view_is at c.self.invariant))

pub returns-clause-limits : goal.returns-clause-limits
returns-clause-limits c =
    let run = whole-run c.args.self c.args.events.now c.loop-event.outs.items c.loop-event.self c.loop-event.event-index (grind (arith, common_steps)) c.loop-event.invariant.run in
    rw c.from_vec.ensures (limits-hold c.args.self c.args.events.now c.loop-event.outs.items c.loop-event.self run (rw c.self.view_is at c.self.invariant))

pub returns-clause-reports : goal.returns-clause-reports
returns-clause-reports c =
    let run = whole-run c.args.self c.args.events.now c.loop-event.outs.items c.loop-event.self c.loop-event.event-index (grind (arith, common_steps)) c.loop-event.invariant.run in
    rw c.from_vec.ensures (reports-hold c.args.self c.args.events.now c.loop-event.outs.items c.loop-event.self run)

pub returns-clause-frames : goal.returns-clause-frames
returns-clause-frames c =
    let run = whole-run c.args.self c.args.events.now c.loop-event.outs.items c.loop-event.self c.loop-event.event-index (grind (arith, common_steps)) c.loop-event.invariant.run in
    rw c.from_vec.ensures (frames-hold c.args.self c.args.events.now c.loop-event.outs.items c.loop-event.self run (rw c.self.view_is at c.self.invariant))

pub returns-clause-starts : goal.returns-clause-starts
returns-clause-starts c =
    let run = whole-run c.args.self c.args.events.now c.loop-event.outs.items c.loop-event.self c.loop-event.event-index (grind (arith, common_steps)) c.loop-event.invariant.run in
    rw c.from_vec.ensures (starts-leave-nothing c.args.self c.args.events.now c.loop-event.outs.items c.loop-event.self run)

pub returns-clause-quiet : goal.returns-clause-quiet
returns-clause-quiet c =
    let run = whole-run c.args.self c.args.events.now c.loop-event.outs.items c.loop-event.self c.loop-event.event-index (grind (arith, common_steps)) c.loop-event.invariant.run in
    rw c.from_vec.ensures (λ j quiet. quiet-shells j c.args.self c.args.events.now c.loop-event.outs.items c.loop-event.self run quiet)

pub returns-clause-typed : goal.returns-clause-typed
returns-clause-typed c =
    let run = whole-run c.args.self c.args.events.now c.loop-event.outs.items c.loop-event.self c.loop-event.event-index (grind (arith, common_steps)) c.loop-event.invariant.run in
    rw c.from_vec.ensures (lines-in-order c.args.self c.args.events.now c.loop-event.outs.items c.loop-event.self run)

pub returns-clause-records : goal.returns-clause-records
returns-clause-records c =
    let run = whole-run c.args.self c.args.events.now c.loop-event.outs.items c.loop-event.self c.loop-event.event-index (grind (arith, common_steps)) c.loop-event.invariant.run in
    rw c.from_vec.ensures (reports-by c.args.self c.args.events.now c.loop-event.outs.items c.loop-event.self run (rw c.self.view_is at c.self.invariant))

pub returns-clause-codes : goal.returns-clause-codes
returns-clause-codes c =
    let run = whole-run c.args.self c.args.events.now c.loop-event.outs.items c.loop-event.self c.loop-event.event-index (grind (arith, common_steps)) c.loop-event.invariant.run in
    let all_codes : HasAllCodes c.args.self = rw (← c.self.view_is) (search rules) in
    rw c.from_vec.ensures (last-codes-stay c.args.self c.args.events.now c.loop-event.outs.items c.loop-event.self run (rw c.self.view_is at c.self.invariant) all_codes)

pub returns-clause-breaks : goal.returns-clause-breaks
returns-clause-breaks c =
    let run = whole-run c.args.self c.args.events.now c.loop-event.outs.items c.loop-event.self c.loop-event.event-index (grind (arith, common_steps)) c.loop-event.invariant.run in
    rw c.from_vec.ensures (breaks-end-in c.args.self c.args.events.now c.loop-event.outs.items c.loop-event.self run)
