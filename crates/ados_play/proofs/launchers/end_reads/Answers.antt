use Rattle.std.proofs.Common.{refl}
use Rattle.ados_machine.specs.declared.children.ChildState.TheVariants.{Reading}
use Rattle.ados_machine.specs.declared.requests.Request.TheVariants.{Read}
use Rattle.ados_launch.proofs.NextCall.{may-ask}
use Rattle.ados_play.proofs.launchers.end_reads.Goals as goal

pub read-requires-clause-reading : goal.read-requires-clause-reading
read-requires-clause-reading c = may-ask c.args.number c.args.launcher.now.calls (Read c.args.number) Reading refl c.requires.reading
