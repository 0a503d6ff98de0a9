use Rattle.std.proofs.Common.{arith, sym, ap, ◌∙◌}
use Rattle.ados_machine.specs.World.{pending_of}
use Rattle.ados_launch.proofs.Requests.{request_high, request_low}
use Rattle.ados_launch.proofs.session.Session.request.Goals as goal

pub returns-then-place-lt21 : goal.returns-then-place-lt21
returns-then-place-lt21 c =
    rw (← c.self.view_is)
    (sym (request_low c.self.inside.schedule c.args.world.now c.in_ok-place.place c.in_ok-place.ensures.place (omega (arith, c.if-place-lt21.true))))

pub returns-else-place-lt21 : goal.returns-else-place-lt21
returns-else-place-lt21 c =
    rw (← c.self.view_is)
    (c.pending.ensures.request ∙ (ap (pending_of c.args.world.now) c.shell_answered.ensures
    ∙ sym (request_high c.self.inside.schedule c.args.world.now c.in_ok-place.place c.in_ok-place.ensures.place (omega (arith, c.if-place-lt21.false)) c.in_ok-place.ensures.below)))
