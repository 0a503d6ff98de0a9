use Rattle.std.proofs.Common.{◌≡◌, ◌+◌, ◌∙◌, sym, ap, subst, length, Option, Some, IsSome, cond, [], arith}
use Rattle.std.specs.FinMap as map
use Rattle.std.specs.FinMap.{len-entries}
use Rattle.ados_ram.specs.declared.entries.Entry.{Entry}
use Rattle.ados_ram.specs.Place.{Key, key_of, is_same_key}
use Rattle.ados_ram.specs.Entry.{size_of}
use Rattle.ados_ram.specs.Files.{Rows, total_of}
use Rattle.ados_ram.specs.Tree.{MayStand, IsReplaced, IsEntryAt, parent_key, subtree_rows}
use Rattle.ados_ram.proofs.RowsLemmas.{get_rows, entries_rows}
use Rattle.ados_ram.proofs.TreeLemmas.{find-from}
use Rattle.ados_ram.proofs.TableLemmas.{inserted}
use Rattle.ados_ram.proofs.InsideLemmas.{inside}
use Rattle.ados_ram.proofs.table.Table.with.Goals as goal

pub with-requires-clause-stands : goal.with-requires-clause-stands
with-requires-clause-stands c =
    subst (λ (k : Key). MayStand k (Some c.in_ok-new.new) c.self.inside.root.1) (sym (ap key_of c.names-4.ensures)) (record {
      named = (c.in_ok-new.ensures.name, c.in_ok-new.ensures.rows.whole);
      inside = subst (λ (o : Option Entry). IsSome o) (get_rows c.self.inside.root.1 (parent_key (key_of c.args.place.now)) c.self.view_is c.self.invariant.sorted)
          (inside c.args.self.now (key_of c.args.place.now) c.args.entry c.requires.root c.requires.files.tree);
    })

pub returns : goal.returns
returns c =
    let key = key_of c.args.place.now in
    let made : IsReplaced key c.in_ok-new.new.1 c.self.inside.root.1 c.in_ok-with.field-0.1 = subst (λ (k : Key). IsReplaced k c.in_ok-new.new.1 c.self.inside.root.1 c.in_ok-with.field-0.1) (ap key_of c.names-4.ensures) c.in_ok-with.ensures.rows in
    inserted key c.args.entry c.in_ok-new.new.1 c.self.inside.root.1 c.in_ok-with.field-0.1 c.self.view_is c.self.invariant.sorted made
    (λ w. (subst (λ (r : Rows). IsEntryAt c.args.entry r c.in_ok-new.new.1) (c.at-there.ensures ∙ ap (λ (k : Key). subtree_rows (key_of k) c.self.inside.root.1) c.names.ensures) c.in_ok-new.ensures.rows).found w ∙ ap (λ (o : Option Entry). cond (is_same_key w []) (Some c.args.entry) o) (find-from key w c.self.inside.root.1))

pub invariant_of-result : goal.invariant_of-result
invariant_of-result c =
    let key = key_of c.args.place.now in
    let entry = c.args.entry in
    let new = c.in_ok-with.field-0.1 in
    let made : IsReplaced key c.in_ok-new.new.1 c.self.inside.root.1 new = subst (λ (k : Key). IsReplaced k c.in_ok-new.new.1 c.self.inside.root.1 new) (ap key_of c.names-4.ensures) c.in_ok-with.ensures.rows in
    let is : map.from_sorted new ≡ map.insert c.args.self.now key entry = inserted key entry c.in_ok-new.new.1 c.self.inside.root.1 new c.self.view_is c.self.invariant.sorted made
    (λ w. (subst (λ (r : Rows). IsEntryAt c.args.entry r c.in_ok-new.new.1) (c.at-there.ensures ∙ ap (λ (k : Key). subtree_rows (key_of k) c.self.inside.root.1) c.names.ensures) c.in_ok-new.ensures.rows).found w ∙ ap (λ (o : Option Entry). cond (is_same_key w []) (Some entry) o) (find-from key w c.self.inside.root.1)) in
    let rows : map.entries (map.insert c.args.self.now key entry) ≡ new = entries_rows new (record { is = is; sorted = made.whole.sorted }) in
    let sum : total_of (map.entries (map.insert c.args.self.now key entry)) ≡ size_of entry + c.bytes_beside.result = subst (λ (k : Key). total_of (map.entries (map.insert c.args.self.now k entry)) ≡ size_of entry + c.bytes_beside.result) (ap key_of c.names-2.ensures) (c.bytes_beside.ensures.total entry) in
    let number : map.len (map.insert c.args.self.now key entry) ≡ c.objects_with-count.result = subst (λ (k : Key). map.len (map.insert c.args.self.now k entry) ≡ c.objects_with-count.result) (ap key_of c.names-3.ensures) (c.objects_with-count.ensures entry) in
    let totals : total_of (map.entries (map.insert c.args.self.now key entry)) ≡ total_of new = ap total_of rows in
    let counts : map.len (map.insert c.args.self.now key entry) ≡ length new = len-entries (map.insert c.args.self.now key entry) ∙ ap length rows in
    let size : c.len.result ≡ size_of entry = c.len.ensures in
    let room = c.requires.files.within.all_bytes in
    let few = c.requires.files.within.objects in
    record { sorted = made.whole.sorted; summed = omega arith; counted = omega arith; fits = omega arith; few = omega arith }
