use Rattle.std.proofs.Common.{◌≡◌, ◌∙◌, ◌++◌, [], List, sym, ap}
use Rattle.std.specs.Option.{option_copied}
use Rattle.std.specs.FinMap as map
use Rattle.ados_ram.specs.Place.{Key, key_of}
use Rattle.ados_ram.specs.Files.{Rows}
use Rattle.ados_ram.specs.Contents.{contents}
use Rattle.ados_ram.specs.Tree.{branch_rows, subtree_rows, places_of_ways}
use Rattle.ados_ram.proofs.RowsLemmas.{entries_rows}
use Rattle.ados_ram.proofs.BelowLemmas.{contents-from}
use Rattle.ados_ram.proofs.table.Table.contents.Goals as goal

pub returns-in_default : goal.returns-in_default
returns-in_default c =
    let key = key_of c.args.directory.now in
    let here : Rows → List Key = λ (r : Rows). places_of_ways key (contents [] r) in
    let all : contents key (map.entries c.args.self.now) ≡ here (subtree_rows key c.self.inside.root.1) = ap (contents key) (entries_rows c.self.inside.root.1 (record { is = c.self.view_is; sorted = c.self.invariant.sorted })) ∙ contents-from key c.self.inside.root.1 in
    c.new-places.ensures.items ∙ ap here (sym (ap (λ o. branch_rows (option_copied o)) c.in_default.is) ∙ c.at.ensures ∙ ap (λ (k : Key). subtree_rows (key_of k) c.self.inside.root.1) c.names.ensures) ∙ sym all

pub returns : goal.returns
returns c =
    let key = key_of c.args.directory.now in
    let here : Rows → List Key = λ (r : Rows). places_of_ways key (contents [] r) in
    let all : contents key (map.entries c.args.self.now) ≡ here (subtree_rows key c.self.inside.root.1) = ap (contents key) (entries_rows c.self.inside.root.1 (record { is = c.self.view_is; sorted = c.self.invariant.sorted })) ∙ contents-from key c.self.inside.root.1 in
    c.in_ok-add_contents.ensures ∙ ap (λ (ps : List Key). ps ++ places_of_ways c.in_ok-folded.field-0 (contents [] c.in-Some.branch.now.1)) c.new-places.ensures.items
    ∙ ap (λ (k : Key). places_of_ways k (contents [] c.in-Some.branch.now.1)) c.in_ok-folded.ensures
    ∙ ap here (sym (ap (λ o. branch_rows (option_copied o)) c.in-Some.is) ∙ c.at.ensures ∙ ap (λ (k : Key). subtree_rows (key_of k) c.self.inside.root.1) c.names.ensures) ∙ sym all
