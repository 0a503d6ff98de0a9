use Rattle.std.proofs.Common.{rules, ap, ◌∙◌}
use Rattle.ados_launcher.specs.Lifecycles.{lifecycle_for_state}
use Rattle.ados_play.proofs.Reopened.{one-more, reopened}
use Rattle.ados_play.proofs.launchers.launcher_of.Goals as goal

pub loop-number-preserved : goal.loop-number-preserved
loop-number-preserved c =
    one-more c.args.world.now c.loop-number.launcher.calls c.reopen.new.launcher.calls c.loop-number.number c.loop-number.invariant
    (c.in_ok-reopen.ensures.own ∙ ap lifecycle_for_state c.child.ensures) c.in_ok-reopen.ensures.others

pub returns : goal.returns
returns c =
    reopened c.args.world.now c.loop-number.launcher.calls c.loop-number.number c.shells-running.result c.shells-running.ensures
    (search rules) (search rules) c.loop-number.invariant
