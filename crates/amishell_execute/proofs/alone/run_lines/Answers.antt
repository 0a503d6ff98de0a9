use Rattle.std.proofs.Common.{◌∙◌}
use Rattle.ados_launch.proofs.Deeding.{lines-then}
use Rattle.amishell_execute.proofs.alone.run_lines.Goals as goal

pub returns-in_err-run_alone-clause-ran : goal.returns-in_err-run_alone-clause-ran
returns-in_err-run_alone-clause-ran g c =
    lines-then c.args.world.now c.loop-line.world c.run_alone.new.world c.loop-line.invariant.ran c.run_alone.ensures.ran

pub loop-line-preserved : goal.loop-line-preserved
loop-line-preserved g c = record {
  agrees = c.in_ok-run_alone.ensures.agrees;
  children = c.run_alone.ensures.children;
  schedule = c.run_alone.ensures.schedule ∙ c.loop-line.invariant.schedule;
  held = c.run_alone.ensures.held ∙ c.loop-line.invariant.held;
  gathered = c.run_alone.ensures.gathered ∙ c.loop-line.invariant.gathered;
  ran = lines-then c.args.world.now c.loop-line.world c.run_alone.new.world c.loop-line.invariant.ran c.run_alone.ensures.ran;
}
