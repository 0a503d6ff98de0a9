use Rattle.std.proofs.Common.{◌≡◌, rules, arith}
use Rattle.ados_launch.specs.Alone.{is_open_after_line}
use Rattle.ados_launch.proofs.Waits.{filled-more}
use Rattle.ados_launch.proofs.Over.{size-of}
use Rattle.ados_launch.proofs.LinesOver.{table-after}
use Rattle.ados_launch.proofs.children.children_after_line.Goals as goal

pub loop-number-preserved : goal.loop-number-preserved
loop-number-preserved c = record {
  size = search rules;
  filled = rw c.from.ensures (filled-more c.loop-number.children c.loop-number.number _ (λ j. is_open_after_line c.args.world.now c.args.ran.now j) (let few = c.loop-number.invariant.size in omega (arith, few)) c.is_open_after_line.ensures c.loop-number.invariant.filled);
}

pub returns : goal.returns
returns c =
    let all : c.loop-number.number ≡ 21 = omega arith in
    table-after c.args.world.now c.args.ran.now _ c.pending-asked.ensures.sane (size-of c.args.world.now c.shells-running.result c.shells-running.ensures (search rules)) (rw all at c.loop-number.invariant.filled)
