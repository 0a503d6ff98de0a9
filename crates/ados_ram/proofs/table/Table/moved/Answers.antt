use Rattle.std.proofs.Common.{◌≡◌, ◌∙◌, sym, ap, subst, length, Option, Some, IsSome}
use Rattle.std.specs.Option.{option_copied, option_map}
use Rattle.std.specs.FinMap as map
use Rattle.std.specs.FinMap.{find}
use Rattle.ados_ram.specs.declared.entries.Entry.{Entry}
use Rattle.ados_ram.specs.Place.{Key, key_of, place_cmp, last_name}
use Rattle.ados_ram.specs.Entry.{renamed_entry}
use Rattle.ados_ram.specs.Files.{Rows, total_of}
use Rattle.ados_ram.specs.FileOperations.{rename_of}
use Rattle.ados_ram.specs.Tree.{MayStand, IsReplaced, parent_key, branch_rows}
use Rattle.ados_ram.proofs.RowsLemmas.{get_rows, entries_rows}
use Rattle.ados_ram.proofs.TotalLemmas.{total-renamed, length-renamed}
use Rattle.ados_ram.proofs.TableLemmas.{moved, stays, absent}
use Rattle.ados_ram.proofs.table.Table.moved.Goals as goal

pub unreachable-requires : goal.unreachable-requires
unreachable-requires c = absent (key_of c.args.from.now) c.self.inside.root.1 c.self.view_is c.self.invariant.sorted (sym (ap (λ o. branch_rows (option_copied o)) c.in_default.is) ∙ c.at.ensures) c.requires.there

pub with-requires-clause-stands : goal.with-requires-clause-stands
with-requires-clause-stands c = record {
  named = tt;
  inside = subst (λ (o : Option Entry). IsSome o) (get_rows c.self.inside.root.1 (parent_key (key_of c.args.from.now)) c.self.view_is c.self.invariant.sorted) c.requires.above_from;
}

pub with-requires-2-clause-stands : goal.with-requires-2-clause-stands
with-requires-2-clause-stands c =
    subst (λ (k : Key). MayStand k (Some c.in_ok-new.new) c.in_ok-left.left.1) (sym (ap key_of c.names.ensures)) (record {
      named = (c.in_ok-new.ensures.name, c.in_ok-new.ensures.rows.whole);
      inside = stays (key_of c.args.from.now) (parent_key (key_of c.args.to.now)) c.self.inside.root.1 c.in_ok-left.left.1 c.in_ok-left.ensures.rows c.requires.apart
          (subst (λ (o : Option Entry). IsSome o) (get_rows c.self.inside.root.1 (parent_key (key_of c.args.to.now)) c.self.view_is c.self.invariant.sorted) c.requires.above_to);
    })

pub returns : goal.returns
returns c =
    let to = key_of c.args.to.now in
    let name = last_name c.args.to.now in
    let put : IsReplaced to c.in_ok-new.new.1 c.in_ok-left.left.1 c.in_ok-with.field-0.1 = subst (λ (k : Key). IsReplaced k c.in_ok-new.new.1 c.in_ok-left.left.1 c.in_ok-with.field-0.1) (ap key_of c.names.ensures) c.in_ok-with.ensures.rows in
    moved (key_of c.args.from.now) to name c.in_ok-new.new.1 c.self.inside.root.1 c.in_ok-left.left.1 c.in_ok-with.field-0.1 c.self.view_is c.self.invariant.sorted c.requires.within c.in_ok-left.ensures.rows put
    (λ w. c.in_ok-new.ensures.rows.found w ∙ ap (λ (r : Rows). option_map (renamed_entry name w) (find place_cmp w r)) (sym (ap (λ o. branch_rows (option_copied o)) c.in-Some.is) ∙ c.at.ensures))

pub invariant_of-result : goal.invariant_of-result
invariant_of-result c =
    let from = key_of c.args.from.now in
    let to = key_of c.args.to.now in
    let name = last_name c.args.to.now in
    let new = c.in_ok-with.field-0.1 in
    let m = c.args.self.now in
    let put : IsReplaced to c.in_ok-new.new.1 c.in_ok-left.left.1 new = subst (λ (k : Key). IsReplaced k c.in_ok-new.new.1 c.in_ok-left.left.1 new) (ap key_of c.names.ensures) c.in_ok-with.ensures.rows in
    let is : map.from_sorted new ≡ rename_of m from to name = moved from to name c.in_ok-new.new.1 c.self.inside.root.1 c.in_ok-left.left.1 new c.self.view_is c.self.invariant.sorted c.requires.within c.in_ok-left.ensures.rows put
    (λ w. c.in_ok-new.ensures.rows.found w ∙ ap (λ (r : Rows). option_map (renamed_entry name w) (find place_cmp w r)) (sym (ap (λ o. branch_rows (option_copied o)) c.in-Some.is) ∙ c.at.ensures)) in
    let rows : map.entries (rename_of m from to name) ≡ new = entries_rows new (record { is = is; sorted = put.whole.sorted }) in
    let own : map.entries m ≡ c.self.inside.root.1 = entries_rows c.self.inside.root.1 (record { is = c.self.view_is; sorted = c.self.invariant.sorted }) in
    record {
      sorted = put.whole.sorted;
      summed = c.self.invariant.summed ∙ ap total_of (sym own) ∙ sym (total-renamed m from to name c.requires.within) ∙ ap total_of rows;
      counted = c.self.invariant.counted ∙ ap (λ (r : Rows). length r) (sym own) ∙ sym (length-renamed m from to name c.requires.within) ∙ ap (λ (r : Rows). length r) rows;
      fits = c.self.invariant.fits;
      few = c.self.invariant.few;
    }
