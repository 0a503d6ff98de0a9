use Rattle.amishell_execute.proofs.Pairs.{kept_pair, table_looked}
use Rattle.amishell_execute.proofs.share.Share.open.Goals as goal

pub run_lines-requires-clause-children : goal.run_lines-requires-clause-children
run_lines-requires-clause-children g c =
    table_looked c.args.world.now c.new-launcher.result.calls c.new-session.result.children
    (kept_pair c.args.world.now c.new-launcher.result.calls c.new-launcher.ensures.calls c.requires.agrees) c.new-session.ensures.children
