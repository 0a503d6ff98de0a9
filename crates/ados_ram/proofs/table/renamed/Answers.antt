use Rattle.std.proofs.Common.{◌≡◌, subst, ap, [], ◌∙◌}
use Rattle.ados_ram.specs.declared.entries.Entry.{Entry}
use Rattle.ados_ram.specs.Place.{last_name}
use Rattle.ados_ram.specs.Entry.{renamed_entry}
use Rattle.ados_ram.specs.Tree.{Kid, IsEntryAt}
use Rattle.ados_ram.proofs.ChangeLemmas.{if_ok}
use Rattle.ados_ram.proofs.TableLemmas.{renamed_rows}
use Rattle.ados_ram.proofs.table.renamed.Goals as goal

pub returns-clause-rows : goal.returns-clause-rows
returns-clause-rows c =
    let entry : c.in_ok-entry.entry ≡ renamed_entry (last_name c.args.to.now) [] c.entry.result.now = c.in_ok-entry.ensures ∙ ap (λ n. renamed_entry n [] c.entry.result.now) c.in_ok-name.ensures in
    if_ok c.with_entry.result (λ (b : Kid) is. renamed_rows (last_name c.args.to.now) c.entry.result.now c.args.branch.now.1 b.1 c.entry.ensures (subst (λ (e : Entry). IsEntryAt e c.args.branch.now.1 b.1) entry is)) c.with_entry.ensures.rows
