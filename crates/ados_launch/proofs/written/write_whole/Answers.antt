use Rattle.std.proofs.Common.{arith, length-drop, length-take, ℕ, ◌∙◌}
use Rattle.ados_launch.proofs.Appending.{appends_more, no_stall}
use Rattle.ados_launch.proofs.written.write_whole.Goals as goal

pub loop-at-preserved : goal.loop-at-preserved
loop-at-preserved g c =
    let i = c.loop-at.invariant in
    record {
      in_range = omega (arith, c.in-Ok.ensures.bound, length-drop c.loop-at.at c.args.bytes.now, length-take {A = ℕ});
      faults = c.in-Ok.ensures.counted ∙ i.faults;
      stalls = no_stall c.in-Ok.count _ _ _ _ c.in-Ok.ensures.stalled c.in-Ok.count-test.1 ∙ i.stalls;
      written = appends_more _ _ _ c.loop-at.at c.in-Ok.count c.args.bytes.now i.written c.in-Ok.ensures.bytes;
    }
