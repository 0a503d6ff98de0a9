use Rattle.std.proofs.Common.{◌∙◌}
use Rattle.ados_launch.proofs.Deeding.{lines-then}
use Rattle.amishell_execute.proofs.share.Share.bring_in.Goals as goal

pub returns-in_err-arrival-clause-ran : goal.returns-in_err-arrival-clause-ran
returns-in_err-arrival-clause-ran g c =
    lines-then c.args.world.now c.loop-arrival.world c.take_in.new.world c.loop-arrival.invariant.ran c.take_in.ensures.ran

pub returns-in_err-settle-clause-ran : goal.returns-in_err-settle-clause-ran
returns-in_err-settle-clause-ran g c =
    lines-then c.args.world.now c.loop-arrival.world c.take_in.new.world c.loop-arrival.invariant.ran c.take_in.ensures.ran

pub loop-arrival-preserved : goal.loop-arrival-preserved
loop-arrival-preserved g c = record {
  agrees = c.in_ok-arrival.ensures.agrees;
  children = c.take_in.ensures.children;
  schedule = c.take_in.ensures.schedule ∙ c.loop-arrival.invariant.schedule;
  held = c.take_in.ensures.held ∙ c.loop-arrival.invariant.held;
  gathered = c.take_in.ensures.gathered ∙ c.loop-arrival.invariant.gathered;
  ran = lines-then c.args.world.now c.loop-arrival.world c.take_in.new.world c.loop-arrival.invariant.ran c.take_in.ensures.ran;
}
