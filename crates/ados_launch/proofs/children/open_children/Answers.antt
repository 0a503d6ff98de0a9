use Rattle.std.proofs.Common.{rules, arith}
use Rattle.ados_machine.specs.World.{pending_of}
use Rattle.ados_launch.specs.Rounds.{asks_read_or_wait}
use Rattle.ados_launch.proofs.Waits.{filled-more}
use Rattle.ados_launch.proofs.children.open_children.Goals as goal

pub loop-number-preserved : goal.loop-number-preserved
loop-number-preserved c = record {
  size = search rules;
  filled = rw c.from.ensures (filled-more c.loop-number.children c.loop-number.number _ (λ j. asks_read_or_wait (pending_of c.args.world.now j)) (let few = c.loop-number.invariant.size in omega (arith, few)) c.asks_further.ensures c.loop-number.invariant.filled);
}
