use Rattle.std.proofs.Common.{◌∙◌, arith, sym}
use Rattle.ados_world.proofs.BitLemmas.{clear-other, clear-same, set-other, set-same}
use Rattle.ados_world.proofs.due.with_bit.Goals as goal

pub returns-then-is_one-clause-number : goal.returns-then-is_one-clause-number
returns-then-is_one-clause-number c = set-same c.args.word c.args.number (omega (arith, c.requires)) ∙ sym c.if-is_one.true

pub returns-then-is_one-clause-others : goal.returns-then-is_one-clause-others
returns-then-is_one-clause-others c k low apart = set-other c.args.word c.args.number k (omega (arith, c.requires)) apart

pub returns-else-is_one-clause-number : goal.returns-else-is_one-clause-number
returns-else-is_one-clause-number c = clear-same c.args.word c.args.number (omega (arith, c.requires)) ∙ sym c.if-is_one.false

pub returns-else-is_one-clause-others : goal.returns-else-is_one-clause-others
returns-else-is_one-clause-others c k low apart = clear-other c.args.word c.args.number k (omega (arith, c.requires)) (omega (arith, low)) apart
