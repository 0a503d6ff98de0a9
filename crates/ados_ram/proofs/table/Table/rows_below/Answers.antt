use Rattle.std.proofs.Common.{◌≡◌, ◌∙◌, ◌++◌, [], sym, ap}
use Rattle.std.specs.Option.{option_copied}
use Rattle.std.specs.FinMap as map
use Rattle.ados_ram.specs.Place.{Key, key_of}
use Rattle.ados_ram.specs.Files.{Rows}
use Rattle.ados_ram.specs.Rows.{inner_rows}
use Rattle.ados_ram.specs.Tree.{branch_rows, subtree_rows, rows_by_root}
use Rattle.ados_ram.proofs.RowsLemmas.{entries_rows}
use Rattle.ados_ram.proofs.WalkLemmas.{rows-below}
use Rattle.ados_ram.proofs.table.Table.rows_below.Goals as goal

pub returns-in_default : goal.returns-in_default
returns-in_default c =
    let key = key_of c.args.directory.now in
    let here : Rows → Rows = λ (r : Rows). rows_by_root key (inner_rows c.args.all [] r) in
    let all : inner_rows c.args.all key (map.entries c.args.self.now) ≡ here (subtree_rows key c.self.inside.root.1) = ap (inner_rows c.args.all key) (entries_rows c.self.inside.root.1 (record { is = c.self.view_is; sorted = c.self.invariant.sorted })) ∙ rows-below c.args.all key c.self.inside.root.1 in
    c.new-rows.ensures.items ∙ ap here (sym (ap (λ o. branch_rows (option_copied o)) c.in_default.is) ∙ c.at.ensures ∙ ap (λ (k : Key). subtree_rows (key_of k) c.self.inside.root.1) c.names.ensures) ∙ sym all

pub returns : goal.returns
returns c =
    let key = key_of c.args.directory.now in
    let here : Rows → Rows = λ (r : Rows). rows_by_root key (inner_rows c.args.all [] r) in
    let all : inner_rows c.args.all key (map.entries c.args.self.now) ≡ here (subtree_rows key c.self.inside.root.1) = ap (inner_rows c.args.all key) (entries_rows c.self.inside.root.1 (record { is = c.self.view_is; sorted = c.self.invariant.sorted })) ∙ rows-below c.args.all key c.self.inside.root.1 in
    c.in_ok-add_rows.ensures ∙ ap (λ (r : Rows). r ++ here c.in-Some.branch.now.1) c.new-rows.ensures.items
    ∙ ap here (sym (ap (λ o. branch_rows (option_copied o)) c.in-Some.is) ∙ c.at.ensures ∙ ap (λ (k : Key). subtree_rows (key_of k) c.self.inside.root.1) c.names.ensures) ∙ sym all
