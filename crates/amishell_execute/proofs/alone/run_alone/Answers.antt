use Rattle.ados_launch.proofs.DeedsAlone.{ran-alone}
use Rattle.amishell_execute.proofs.Ran.{agrees_ran}
use Rattle.amishell_execute.proofs.alone.run_alone.Goals as goal

pub returns-clause-ran : goal.returns-clause-ran
returns-clause-ran g c =
    let e = c.system-ran.ensures in
    ran-alone c.args.world.now c.system-ran.new.world c.args.line.now _ _ _ _ _ _ c.system-ran.result _ _ e.ended e.running e.untouched e.fault

pub returns-clause-children : goal.returns-clause-children
returns-clause-children g c =
    let e = c.system-ran.ensures in
    c.look.ensures.children (g.L.Launcher.calls c.system-ran.new.launcher)
    (agrees_ran c.args.world.now c.system-ran.new.world c.args.line.now _ _ _ _ _ (g.L.Launcher.calls c.system-ran.new.launcher) c.system-ran.result e.agrees e.agrees_after e.fault)
