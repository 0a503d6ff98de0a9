use Rattle.std.proofs.Common.{◌+◌, ◌-◌, ◌*◌, ◌&&◌, sym, ◌∙◌, ap}
use Rattle.ados_pattern.specs.CharTest.{has_test, test_of}
use Rattle.ados_pattern.specs.Table.{cells_of}
use Rattle.ados_pattern.proofs.Bits.{set-zero}
use Rattle.ados_pattern.proofs.tables.next_ends.Goals as goal

pub returns-else-holds : goal.returns-else-holds
returns-else-holds c = λ b l. set-zero b ∙ ap (λ x. x && cells_of c.args.rest.now (c.args.start - 1) (c.args.group * 64 + b)) (sym c.if-holds.false ∙ c.holds.ensures ∙ ap (has_test (test_of c.args.test)) c.next_byte.ensures)
