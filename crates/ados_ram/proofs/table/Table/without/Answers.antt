use Rattle.std.proofs.Common.{◌≡◌, ◌+◌, ◌≤◌, ◌∙◌, ℕ, [], sym, ap, refl, subst, length, Option, IsSome, false, arith}
use Rattle.std.specs.FinMap as map
use Rattle.ados_ram.specs.Entry.{new_directory}
use Rattle.ados_ram.specs.Rows.{other_rows}
use Rattle.ados_ram.specs.declared.entries.Entry.{Entry}
use Rattle.ados_ram.specs.Place.{key_of}
use Rattle.ados_ram.specs.Files.{Rows, total_of}
use Rattle.ados_ram.specs.FileOperations.{has_descendants}
use Rattle.ados_ram.specs.Tree.{parent_key}
use Rattle.ados_ram.proofs.RowsLemmas.{get_rows, own_rows, entries_rows, deleted_rows, total-insert, len-insert, length-without}
use Rattle.ados_ram.proofs.TableLemmas.{removed}
use Rattle.ados_ram.proofs.table.Table.without.Goals as goal

pub with-requires-clause-stands : goal.with-requires-clause-stands
with-requires-clause-stands c = record {
  named = tt;
  inside = subst (λ (o : Option Entry). IsSome o) (get_rows c.self.inside.root.1 (parent_key (key_of c.args.names.now)) c.self.view_is c.self.invariant.sorted) c.requires.inside;
}

pub overflow_sub-result : goal.overflow_sub-result
overflow_sub-result c = one (map.len (map.insert c.args.self.now (key_of c.args.names.now) (new_directory []))) c.objects_with.result (c.objects_with.ensures (new_directory [])) (len-insert c.args.self.now (key_of c.args.names.now) (new_directory []))
  where
    one : (n r : ℕ) → n ≡ r → n ≡ 1 + length (other_rows (key_of c.args.names.now) (map.entries c.args.self.now)) → 1 ≤ r
    one n r e f = omega arith

pub invariant_of-result : goal.invariant_of-result
invariant_of-result c =
    let key = key_of c.args.names.now in
    let new = c.in_ok-with.field-0.1 in
    let empty : has_descendants key c.self.inside.root.1 ≡ false = subst (λ (es : Rows). has_descendants key es ≡ false) (entries_rows c.self.inside.root.1 (record { is = c.self.view_is; sorted = c.self.invariant.sorted })) c.requires.empty in
    let is : map.from_sorted new ≡ map.remove c.args.self.now key = removed key c.self.inside.root.1 new c.self.view_is c.self.invariant.sorted empty c.in_ok-with.ensures.rows in
    let rows : map.entries (map.remove c.args.self.now key) ≡ new = entries_rows new (record { is = is; sorted = c.in_ok-with.ensures.rows.whole.sorted }) in
    let left : map.entries (map.remove c.args.self.now key) ≡ other_rows key (map.entries c.args.self.now) = entries_rows (other_rows key (map.entries c.args.self.now)) (deleted_rows key (own_rows c.args.self.now) refl) in
    let same : other_rows key (map.entries c.args.self.now) ≡ new = sym left ∙ rows in
    let totals : total_of (other_rows key (map.entries c.args.self.now)) ≡ total_of new = ap total_of same in
    let counts : length (other_rows key (map.entries c.args.self.now)) ≡ length new = ap length same in
    let sum : total_of (map.entries (map.insert c.args.self.now key (new_directory []))) ≡ 0 + c.bytes_beside.result = c.bytes_beside.ensures.total (new_directory []) in
    let number : map.len (map.insert c.args.self.now key (new_directory [])) ≡ c.objects_with.result = c.objects_with.ensures (new_directory []) in
    let others : total_of (map.entries (map.insert c.args.self.now key (new_directory []))) ≡ 0 + total_of (other_rows key (map.entries c.args.self.now)) = total-insert c.args.self.now key (new_directory []) in
    let all = len-insert c.args.self.now key (new_directory []) in
    let fits = c.bytes_beside.ensures.fits in
    let less : length (other_rows key (map.entries c.args.self.now)) ≤ length (map.entries c.args.self.now) = length-without key (map.entries c.args.self.now) in
    let own : length (map.entries c.args.self.now) ≡ length c.self.inside.root.1 = ap length (entries_rows c.self.inside.root.1 (record { is = c.self.view_is; sorted = c.self.invariant.sorted })) in
    let count = c.self.invariant.counted in
    let few = c.self.invariant.few in
    record { sorted = c.in_ok-with.ensures.rows.whole.sorted; summed = omega arith; counted = omega arith; fits = omega arith; few = omega arith }

pub returns : goal.returns
returns c =
    let empty : has_descendants (key_of c.args.names.now) c.self.inside.root.1 ≡ false = subst (λ (es : Rows). has_descendants (key_of c.args.names.now) es ≡ false) (entries_rows c.self.inside.root.1 (record { is = c.self.view_is; sorted = c.self.invariant.sorted })) c.requires.empty in
    removed (key_of c.args.names.now) c.self.inside.root.1 c.in_ok-with.field-0.1 c.self.view_is c.self.invariant.sorted empty c.in_ok-with.ensures.rows
