use Rattle.std.proofs.Common.{◌≡◌, ℕ, List, [], ap, ◌∙◌}
use Rattle.std.specs.FinMap as map
use Rattle.ados_ram.specs.Rows.{first_rows}
use Rattle.ados_ram.specs.Entry.{new_directory}
use Rattle.ados_ram.specs.Tree.{Kid, Kids, rows_of}
use Rattle.ados_ram.specs.declared.entries.Entry.{Entry}
use Rattle.ados_ram.proofs.FirstLemmas.{first_is, first_rows_of}
use Rattle.ados_ram.proofs.table.Table.first.Goals as goal

pub returns : goal.returns
returns c =
    let rows : c.in_ok-new.field-0.1 ≡ first_rows =
    ap (λ (k : Kid). k.1) c.in_ok-new.ensures ∙ ap (λ (e : Entry). rows_of e c.in_ok-kids.kids) c.in_ok-root.ensures ∙ ap (λ (n : List ℕ). rows_of (new_directory n) c.in_ok-kids.kids) c.in_ok-from_bytes.ensures
    ∙ ap (λ (ks : Kids). rows_of (new_directory []) ks) (c.in_ok-kids.ensures ∙ c.in_ok-first_kids.ensures) ∙ first_rows_of in
    ap map.from_sorted rows ∙ first_is
