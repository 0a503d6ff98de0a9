use Rattle.std.proofs.Common.{◌+◌, ◌*◌, ◌&&◌, ◌∙◌, ap}
use Rattle.ados_pattern.specs.Table.{cell_of, cells_in, is_set}
use Rattle.ados_pattern.proofs.Bits.{set-and}
use Rattle.ados_pattern.proofs.tables.word_for.Goals as goal

pub returns : goal.returns
returns c = λ b l.
    set-and c.ends.result c.up_to.result b
    ∙ ap (λ x. x && is_set c.up_to.result b) (c.ends.ensures b l)
    ∙ ap (λ x. cell_of c.args.rule.now c.args.text.now (cells_in c.args.known.now c.args.group) c.args.start (c.args.group * 64 + b) && x) (c.up_to.ensures b l)
