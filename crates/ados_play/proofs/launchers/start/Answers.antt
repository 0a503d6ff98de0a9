use Rattle.std.proofs.Common.{[], refl}
use Rattle.ados_machine.specs.declared.children.ChildState.TheVariants.{Closed}
use Rattle.ados_machine.specs.declared.requests.Job.{Job}
use Rattle.ados_machine.specs.declared.requests.Request.TheVariants.{Start}
use Rattle.ados_launch.proofs.NextCall.{may-ask}
use Rattle.ados_play.proofs.launchers.start.Goals as goal

pub start-requires-clause-closed : goal.start-requires-clause-closed
start-requires-clause-closed c =
    let job : Job = record { shell = c.args.number; program = []; args = [] } in
    may-ask c.args.number c.args.launcher.now.calls (Start job) Closed refl c.requires.none
