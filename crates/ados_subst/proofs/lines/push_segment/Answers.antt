use Rattle.std.proofs.Common.{arith}
use Rattle.ados_subst.proofs.NextLemmas.{position-take}
use Rattle.ados_subst.proofs.lines.push_segment.Goals as goal

pub referred-requires-clause-place : goal.referred-requires-clause-place
referred-requires-clause-place c =
    let front = position-take c.args.above.now.marks.dollar c.args.rest.ket c.args.rest.bytes.now in
    grind (arith, front, c.requires.dollar, c.min.ensures)
