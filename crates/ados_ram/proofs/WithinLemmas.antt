-- Files after an operation are within the limits within which they were.
use Rattle.std.proofs.Common.{◌≡◌, ℕ, suc, ◌+◌, ◌≤◌, Bool, true, false, cond, ◌&&◌, nat_le, List, [], ◌++◌, length, Option, Some, None, IsTrue, refl, sym, ap, ◌∙◌, subst, arith}
use Rattle.std.proofs.lemmas.Bool.{leb-true}
use Rattle.std.specs.FinMap as map
use Rattle.std.specs.FinMap.{find, get-insert, get-remove, get-entries, len-entries}
use Rattle.ados_text.specs.declared.codes.TheConstants.Result2.{DISK_FULL}
use Rattle.ados_ram.specs.declared.entries.Bits.{Bits}
use Rattle.ados_ram.specs.declared.entries.Entry.{Entry}
use Rattle.ados_ram.specs.declared.limits.Limits.{Limits}
use Rattle.ados_ram.specs.declared.limits.Limits.TheVariants.{Small, Large}
use Rattle.ados_ram.specs.Place.{Key, place_cmp, place_cmp_total, is_same_key}
use Rattle.ados_ram.specs.Entry.{bytes_of_body, fresh_bits, size_of, file_entry, file_entry_with_bits, new_directory}
use Rattle.ados_ram.specs.Limits.{file_limit, bytes_limit, objects_limit}
use Rattle.ados_ram.specs.Files.{Files, Rows, IsWithin, entry_bytes, total_of}
use Rattle.ados_ram.specs.FileOperations.{way_fault, write_target_fault, full_fault, limit_fault, write_of, write_fault, write_as_of, append_of, is_put, put_open_of, put_open_fault, free_fault, make_dir_of, make_dir_fault, with_entry_changed}
use Rattle.ados_ram.specs.Rows.{other_rows}
use Rattle.ados_ram.proofs.RowsLemmas.{AreRowsOf, size-written, own_rows, entries_rows, deleted_rows, total-insert, len-insert, total-without, length-without, total-found, length-found}
use Rattle.ados_ram.proofs.FilesLemmas.{or_second, nothing}

-- limits that are not above others
pub record AreUpTo (limits most : Limits) : Type 0 where
  pub file : file_limit limits ≤ file_limit most
  pub bytes : bytes_limit limits ≤ bytes_limit most
  pub objects : objects_limit limits ≤ objects_limit most

pub up-same : (limits : Limits) → AreUpTo limits limits
up-same limits = record { file = omega arith; bytes = omega arith; objects = omega arith }

pub up-large : (limits : Limits) → AreUpTo limits Large
up-large Small = record { file = omega arith; bytes = omega arith; objects = omega arith }
up-large Large = record { file = omega arith; bytes = omega arith; objects = omega arith }

pub up-small : (limits : Limits) → AreUpTo Small limits
up-small Small = record { file = omega arith; bytes = omega arith; objects = omega arith }
up-small Large = record { file = omega arith; bytes = omega arith; objects = omega arith }

-- files within limits are within those above
pub larger : {limits most : Limits} {m : Files} → AreUpTo limits most → IsWithin limits m → IsWithin most m
larger up within =
    let bytes = within.all_bytes in
    let objects = within.objects in
    record {
      each_file = λ place. omega (arith, within.each_file place, up.file);
      all_bytes = omega (arith, up.bytes);
      objects = omega (arith, up.objects);
    }

record AllHold (a b c : Bool) : Type 0 where
  pub first : IsTrue a
  pub second : IsTrue b
  pub third : IsTrue c

all_hold : (a b c : Bool) → cond (a && b && c) None (Some DISK_FULL) ≡ None → AllHold a b c
all_hold true true true h = record { first = refl; second = refl; third = refl }
all_hold true true false h = cc
all_hold true false c h = cc
all_hold false b c h = cc

-- a file of a size, a total and a count are within limits
pub record Fits (limits : Limits) (size total count : ℕ) : Type 0 where
  pub file : size ≤ file_limit limits
  pub bytes : total ≤ bytes_limit limits
  pub objects : count ≤ suc (objects_limit limits)

no_fault : {limits most : Limits} (size total count : ℕ) → AreUpTo limits most → limit_fault limits size total count ≡ None → Fits most size total count
no_fault {limits} {most} size total count up h =
    let all : AllHold (nat_le size (file_limit limits)) (nat_le total (bytes_limit limits)) (nat_le count (suc (objects_limit limits))) = all_hold _ _ _ h in
    let a : size ≤ file_limit limits = leb-true _ _ all.first in
    let b : total ≤ bytes_limit limits = leb-true _ _ all.second in
    let c : count ≤ suc (objects_limit limits) = leb-true _ _ all.third in
    record { file = omega (arith, up.file); bytes = omega (arith, up.bytes); objects = omega (arith, up.objects) }

-- with an entry put at a place
pub put-within : {m : Files} {most : Limits} (key : Key) (new : Entry) → IsWithin most m → Fits most (size_of new) (total_of (map.entries (map.insert m key new))) (map.len (map.insert m key new)) → IsWithin most (map.insert m key new)
put-within {m} {most} key new within fits = record {
  each_file = λ place. subst (λ (o : Option Entry). length (entry_bytes o) ≤ file_limit most) (sym (get-insert place_cmp_total m key new place))
      (elim (is_same_key place key) as (λ b. length (entry_bytes (cond b (Some new) (map.get m place))) ≤ file_limit most) [
        | true ↦ fits.file
        | false ↦ within.each_file place
      ]);
  all_bytes = fits.bytes;
  objects = fits.objects;
}

-- the bits of a new file do not affect the sizes
same_total : (m : Files) (key : Key) (name bytes : List ℕ) (bits : Bits) → total_of (map.entries (write_of m key name bytes)) ≡ total_of (map.entries (write_as_of m key name bytes bits))
same_total m key name bytes bits =
    total-insert m key _
    ∙ ap (λ s. s + total_of (other_rows key (map.entries m))) (size-written fresh_bits (map.get m key) name bytes ∙ sym (size-written bits (map.get m key) name bytes))
    ∙ sym (total-insert m key _)

-- after a write that is not refused
pub written-within : {m : Files} {limits most : Limits} (is_open : Bool) (key : Key) (name bytes : List ℕ) (bits : Bits) → AreUpTo limits most → IsWithin most m → write_fault limits is_open m key name bytes ≡ None → IsWithin most (write_as_of m key name bytes bits)
written-within {m} {limits} {most} is_open key name bytes bits up within e =
    let new = file_entry_with_bits bits (map.get m key) name bytes in
    let rest = or_second (way_fault m [] key) _ e in
    let fits : Fits most (length bytes) (total_of (map.entries (write_of m key name bytes))) (map.len (write_of m key name bytes)) = no_fault _ _ _ up (or_second (write_target_fault is_open (map.get m key)) _ rest) in
    put-within key new within (record {
      file = subst (λ (n : ℕ). n ≤ file_limit most) (sym (size-written bits (map.get m key) name bytes)) fits.file;
      bytes = subst (λ (n : ℕ). n ≤ bytes_limit most) (same_total m key name bytes bits) fits.bytes;
      objects = subst (λ (n : ℕ). n ≤ suc (objects_limit most)) (len-insert m key _ ∙ sym (len-insert m key new)) fits.objects;
    })

-- after bytes were appended to an open output, if that is not refused
pub put-open-within : {m : Files} {limits most : Limits} (key : Key) (name bytes : List ℕ) → AreUpTo limits most → IsWithin most m → put_open_fault limits m key name bytes ≡ None → IsWithin most (put_open_of m key name bytes)
put-open-within {m} {limits} {most} key name bytes up within e =
    let all = entry_bytes (map.get m key) ++ bytes in
    elim (is_put (map.get m key) bytes) as (λ b. cond b (full_fault limits (length all) (append_of m key name bytes)) None ≡ None → IsWithin most (cond b (append_of m key name bytes) m)) [
      | true ↦ λ g.
          let fits : Fits most (length all) (total_of (map.entries (append_of m key name bytes))) (map.len (append_of m key name bytes)) = no_fault _ _ _ up g in
          put-within key (file_entry (map.get m key) name all) within (record {
            file = subst (λ (n : ℕ). n ≤ file_limit most) (sym (size-written fresh_bits (map.get m key) name all)) fits.file;
            bytes = fits.bytes;
            objects = fits.objects;
          })
      | false ↦ λ g. within
    ] e

-- after a directory was created, if that is not refused
pub made-within : {m : Files} {limits most : Limits} (key : Key) (name : List ℕ) → AreUpTo limits most → IsWithin most m → make_dir_fault limits m key name ≡ None → IsWithin most (make_dir_of m key name)
made-within {m} {limits} {most} key name up within e =
    let fits : Fits most 0 (total_of (map.entries (make_dir_of m key name))) (map.len (make_dir_of m key name)) =
    no_fault 0 _ _ up (or_second (free_fault (map.get m key)) _ (or_second (way_fault m [] key) _ e)) in
    put-within key (new_directory name) within (record { file = omega arith; bytes = fits.bytes; objects = fits.objects })

-- after an entry was changed, but not its bytes
pub changed-within : {m : Files} {limits : Limits} (key : Key) (change : Entry → Entry) (e : Entry) → IsWithin limits m → map.get m key ≡ Some e → (change e).body ≡ e.body → IsWithin limits (map.insert m key (change e))
changed-within {m} {limits} key change e within found body =
    let there : find place_cmp key (map.entries m) ≡ Some e = sym (get-entries m key) ∙ found in
    let size : size_of (change e) ≡ size_of e = ap (λ b. length (bytes_of_body b)) body in
    let small : size_of e ≤ file_limit limits = subst (λ (o : Option Entry). length (entry_bytes o) ≤ file_limit limits) found (within.each_file key) in
    let all = within.all_bytes in
    let count = within.objects in
    let total : total_of (map.entries (map.insert m key (change e))) ≡ size_of (change e) + total_of (other_rows key (map.entries m)) = total-insert m key (change e) in
    let number : map.len (map.insert m key (change e)) ≡ 1 + length (other_rows key (map.entries m)) = len-insert m key (change e) in
    put-within key (change e) within (record {
      file = omega arith;
      bytes = omega (arith, total-found key e (map.entries m) there);
      objects = omega (arith, length-found key e (map.entries m) there, len-entries m);
    })

-- the same, if there may be no entry
pub with-changed-within : {limits : Limits} (m : Files) (key : Key) (change : Entry → Entry) → ((e : Entry) → (change e).body ≡ e.body) → IsWithin limits m → IsWithin limits (with_entry_changed m key change (map.get m key))
with-changed-within {limits} m key change body within =
    elim (map.get m key) as (λ o. map.get m key ≡ o → IsWithin limits (with_entry_changed m key change o)) [
      | None ↦ λ h. within
      | Some e ↦ λ h. changed-within key change e within h (body e)
    ] refl

-- after an object was removed
pub removed-within : {limits : Limits} (m : Files) (key : Key) → IsWithin limits m → IsWithin limits (map.remove m key)
removed-within {limits} m key within =
    let r : AreRowsOf (other_rows key (map.entries m)) (map.remove m key) = deleted_rows key (own_rows m) refl in
    let left : map.entries (map.remove m key) ≡ other_rows key (map.entries m) = entries_rows (other_rows key (map.entries m)) r in
    let all = within.all_bytes in
    let count = within.objects in
    record {
      each_file = λ place. subst (λ (o : Option Entry). length (entry_bytes o) ≤ file_limit limits) (sym (get-remove place_cmp_total m key place))
          (elim (is_same_key place key) as (λ b. length (entry_bytes (cond b nothing (map.get m place))) ≤ file_limit limits) [ true ↦ omega arith | false ↦ within.each_file place ]);
      all_bytes = subst (λ (es : Rows). total_of es ≤ bytes_limit limits) (sym left) (omega (arith, total-without key (map.entries m)));
      objects = subst (λ (n : ℕ). n ≤ suc (objects_limit limits)) (sym (len-entries _ ∙ ap length left)) (omega (arith, length-without key (map.entries m), len-entries m));
    }
