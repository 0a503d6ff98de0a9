use Rattle.std.proofs.Common.{◌+◌, ◌*◌, sym, ◌∙◌, ap}
use Rattle.ados_pattern.specs.Table.{cell_of, cells_in, table_word}
use Rattle.ados_pattern.proofs.Columns.{ends-many, ends-other, ends-either}
use Rattle.ados_pattern.proofs.tables.ends.Goals as goal

pub returns-in-Many : goal.returns-in-Many
returns-in-Many c = λ b l.
    ends-many c.in-Many.inner c.args.known.now c.args.text.now c.args.group c.args.start c.single-in-Many.result c.through.result b l (c.single-in-Many.ensures b l) (c.through.ensures b l)
    ∙ ap (λ r. cell_of r c.args.text.now (cells_in c.args.known.now c.args.group) c.args.start (c.args.group * 64 + b)) (sym c.in-Many.is)

pub returns-in-Other : goal.returns-in-Other
returns-in-Other c = λ b l.
    ends-other c.in-Other.inner (cells_in c.args.known.now c.args.group) c.args.text.now c.args.group c.args.start c.word_at.result b l c.word_at.type_inv
    (c.word_at.ensures ∙ ap (λ column. table_word column c.args.start) c.column.ensures)
    ∙ ap (λ r. cell_of r c.args.text.now (cells_in c.args.known.now c.args.group) c.args.start (c.args.group * 64 + b)) (sym c.in-Other.is)

pub returns-in-Either : goal.returns-in-Either
returns-in-Either c = λ b l.
    ends-either c.in-Either.one c.in-Either.other (cells_in c.args.known.now c.args.group) c.args.text.now c.args.group c.args.start c.word_at-in-Either.result c.word_at-in-Either-2.result b l
    (c.word_at-in-Either.ensures ∙ ap (λ column. table_word column c.args.start) c.column-in-Either.ensures)
    (c.word_at-in-Either-2.ensures ∙ ap (λ column. table_word column c.args.start) c.column-in-Either-2.ensures)
    ∙ ap (λ r. cell_of r c.args.text.now (cells_in c.args.known.now c.args.group) c.args.start (c.args.group * 64 + b)) (sym c.in-Either.is)
