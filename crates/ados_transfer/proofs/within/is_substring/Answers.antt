use Rattle.std.proofs.Common.{rules}
use Rattle.ados_transfer.proofs.WithinLemmas.{within_kept}
use Rattle.ados_transfer.proofs.within.is_substring.Goals as goal

pub loop-from-preserved : goal.loop-from-preserved
loop-from-preserved c =
    within_kept c.args.bytes.now c.args.all.now c.loop-from.from c.starts_with.result (search rules) (search rules) (search rules) c.loop-from.invariant
