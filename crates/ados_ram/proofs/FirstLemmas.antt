-- The initial rows are those of the initial files.
use Rattle.std.proofs.Common.{◌≡◌, ℕ, suc, ◌≤◌, Bool, true, false, cond, List, [], ◌∷◌, ◌++◌, Option, Some, IsSome, IsTrue, refl, sym, ap, ◌∙◌, subst, codes, length, length-append, arith}
use Rattle.std.specs.FinMap as map
use Rattle.std.specs.FinMap.{get-insert, get-from_entries, len-entries}
use Rattle.ados_ram.specs.declared.entries.Entry.{Entry}
use Rattle.ados_ram.specs.Place.{key_of, place_cmp, place_cmp_total, is_same_key}
use Rattle.ados_ram.specs.Entry.{new_directory}
use Rattle.ados_ram.specs.Files.{Files, Rows, IsTree, is_some_directory, entry_bytes, total_of, directory_row, first_files, IsWithin}
use Rattle.ados_ram.specs.Limits.{file_limit, bytes_limit, objects_limit}
use Rattle.ados_ram.specs.declared.limits.Limits.{Limits}
use Rattle.ados_ram.specs.declared.limits.Limits.TheVariants.{Small}
use Rattle.ados_ram.specs.Rows.{first_rows}
use Rattle.ados_ram.specs.Tree.{rows_of, first_kids}
use Rattle.ados_ram.proofs.RowsLemmas.{sorted_of, sorted_of_rows, entries_rows}
use Rattle.ados_ram.proofs.FilesLemmas.{put_files, clash, nothing}
use Rattle.ados_ram.proofs.WithinLemmas.{put-within, larger, up-small}

abbrev root_rows : Rows
root_rows = ([], new_directory []) ∷ []

none : (q : List (List ℕ)) → map.get (map.from_entries {R = place_cmp} []) q ≡ nothing
none q = get-from_entries place_cmp_total [] q

at_root : (q : List (List ℕ)) → map.get (map.from_entries {R = place_cmp} root_rows) q ≡ cond (is_same_key q []) (Some (new_directory [])) nothing
at_root q = get-insert place_cmp_total _ [] (new_directory []) q ∙ ap (cond (is_same_key q []) (Some (new_directory []))) (none q)

no_root : (place : List (List ℕ)) (name : List ℕ) (rest : List (List ℕ)) → is_same_key (place ++ name ∷ rest) [] ≡ false
no_root [] name rest = refl
no_root (x ∷ xs) name rest = refl

total_rows : (es : Rows) → total_of (sorted_of es) ≤ bytes_limit Small → total_of (map.entries (map.from_entries {R = place_cmp} es)) ≤ bytes_limit Small
total_rows es h = subst (λ (r : Rows). total_of r ≤ bytes_limit Small) (sym (entries_rows (sorted_of es) (sorted_of_rows es))) h

count_rows : (es : Rows) → length (sorted_of es) ≤ suc (objects_limit Small) → map.len (map.from_entries {R = place_cmp} es) ≤ suc (objects_limit Small)
count_rows es h = subst (λ (n : ℕ). n ≤ suc (objects_limit Small)) (sym (len-entries _ ∙ ap length (entries_rows (sorted_of es) (sorted_of_rows es)))) h

root_files : IsTree (map.from_entries root_rows)
root_files = record {
  root = subst (λ (o : Option Entry). IsTrue (is_some_directory o)) (sym (at_root [])) refl;
  above = λ place name rest h.
      clash (subst (λ (b : Bool). IsSome (cond b (Some (new_directory [])) nothing)) (no_root place name rest) (subst (λ (o : Option Entry). IsSome o) (at_root (place ++ name ∷ rest)) h));
}

root_within : IsWithin Small (map.from_entries root_rows)
root_within = record {
  each_file = λ place. subst (λ (o : Option Entry). length (entry_bytes o) ≤ file_limit Small) (sym (at_root place))
      (elim (is_same_key place []) as (λ b. length (entry_bytes (cond b (Some (new_directory [])) nothing)) ≤ file_limit Small) [ true ↦ omega arith | false ↦ omega arith ]);
  all_bytes = total_rows root_rows (omega arith);
  objects = count_rows root_rows (omega arith);
}

-- what is above a place directly in the root is the root
top_clear : (m : Files) → IsTree m → (k : List ℕ) (place : List (List ℕ)) (name : List ℕ) (rest : List (List ℕ)) → place ++ name ∷ rest ≡ k ∷ [] → IsTrue (is_some_directory (map.get m place))
top_clear m files k [] name rest e = files.root
top_clear m files k (x ∷ xs) name rest e =
    let one : length (x ∷ (xs ++ name ∷ rest)) ≡ 1 = ap length e in
    absurd (omega (arith, one, length-append xs (name ∷ rest)))

-- one more directory in the root
with_directory : (es : Rows) (name : List ℕ) → IsTree (map.from_entries es) → IsTree (map.from_entries (directory_row name ∷ es))
with_directory es name files = put_files (key_of (name ∷ [])) (new_directory name) files (top_clear _ files _) (λ d. refl)

with_within : (es : Rows) (name : List ℕ) → IsWithin Small (map.from_entries es) → total_of (sorted_of (directory_row name ∷ es)) ≤ bytes_limit Small → length (sorted_of (directory_row name ∷ es)) ≤ suc (objects_limit Small)
    → IsWithin Small (map.from_entries (directory_row name ∷ es))
with_within es name within total count =
    put-within (key_of (name ∷ [])) (new_directory name) within
    (record { file = omega arith; bytes = total_rows (directory_row name ∷ es) total; objects = count_rows (directory_row name ∷ es) count })

abbrev one_row : Rows
one_row = directory_row (codes "Env") ∷ root_rows

abbrev two_rows : Rows
two_rows = directory_row (codes "T") ∷ one_row

abbrev three_rows : Rows
three_rows = directory_row (codes "S") ∷ two_rows

pub all_files : IsTree first_files
all_files =
    with_directory three_rows (codes "C") (with_directory two_rows (codes "S") (with_directory one_row (codes "T") (with_directory root_rows (codes "Env") root_files)))

small_first : IsWithin Small first_files
small_first =
    with_within three_rows (codes "C") (with_within two_rows (codes "S") (with_within one_row (codes "T") (with_within root_rows (codes "Env") root_within (omega arith) (omega arith)) (omega arith) (omega arith)) (omega arith) (omega arith)) (omega arith) (omega arith)

pub first-within : (limits : Limits) → IsWithin limits first_files
first-within limits = larger (up-small limits) small_first

pub first_is : map.from_sorted first_rows ≡ first_files
first_is = (sorted_of_rows (directory_row (codes "C") ∷ directory_row (codes "S") ∷ directory_row (codes "T") ∷ directory_row (codes "Env") ∷ root_rows)).is

pub first_rows_of : rows_of (new_directory []) first_kids ≡ first_rows
first_rows_of = refl
