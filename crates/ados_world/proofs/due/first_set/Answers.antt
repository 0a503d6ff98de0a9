use Rattle.std.proofs.Common.{◌+◌, ◌/◌, ◌^◌, ◌∙◌, Some, ap, arith}
use Rattle.std.specs.Int.Count.{count_trailing_zeros}
use Rattle.ados_world.proofs.BitLemmas.{found-set, none-set}
use Rattle.ados_world.proofs.due.first_set.Goals as goal

pub returns-then-number-le20-clause-number : goal.returns-then-number-le20-clause-number
returns-then-number-le20-clause-number c =
    ap (λ n. Some (n + count_trailing_zeros 32 (c.args.word / 2 ^ c.args.from))) c.from.ensures
    ∙ found-set c.args.word c.args.from c.ranges.word.fits (omega (arith, c.from.ensures, c.if-number-le20.true))

pub returns-else-number-le20-clause-number : goal.returns-else-number-le20-clause-number
returns-else-number-le20-clause-number c = none-set c.args.word c.args.from c.ranges.word.fits (omega (arith, c.from.ensures, c.if-number-le20.false))
