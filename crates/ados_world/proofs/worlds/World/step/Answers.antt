use Rattle.ados_world.proofs.LawLemmas.{failed-start, step-gives, step-keeps-entries, step-keeps-outputs}
use Rattle.ados_world.proofs.BindingLemmas.{step-binds}
use Rattle.ados_world.proofs.BrokenLemmas.{step-told}
use Rattle.ados_world.proofs.worlds.World.step.Goals as goal

pub returns-clause-failed_start : goal.returns-clause-failed_start
returns-clause-failed_start c =
    rw c.in_ok-step_into.ensures.world (failed-start c.args.self.now c.args.event.now _ c.in_ok-step_into.ensures.response)

pub returns-clause-request : goal.returns-clause-request
returns-clause-request c =
    rw (c.into_out.ensures, c.in_ok-step_into.ensures.world) (step-gives c.args.self.now c.args.event.now _ (rw c.self.view_is at c.self.invariant) c.in_ok-step_into.ensures.response)

pub returns-clause-residents : goal.returns-clause-residents
returns-clause-residents c =
    rw c.in_ok-step_into.ensures.world (step-keeps-entries c.args.self.now c.args.event.now _ c.in_ok-step_into.ensures.response)

pub returns-clause-outputs : goal.returns-clause-outputs
returns-clause-outputs c =
    rw c.in_ok-step_into.ensures.world (step-keeps-outputs c.args.self.now c.args.event.now _ c.in_ok-step_into.ensures.response)

pub returns-clause-breaks : goal.returns-clause-breaks
returns-clause-breaks c =
    rw c.into_out.ensures (step-told c.args.self.now c.args.event.now _ c.in_ok-step_into.ensures.response)

pub returns-clause-binding : goal.returns-clause-binding
returns-clause-binding c =
    rw c.in_ok-step_into.ensures.world (step-binds c.args.self.now c.args.event.now _ c.in_ok-step_into.ensures.response)
