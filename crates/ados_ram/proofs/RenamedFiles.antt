-- Files after a rename are files.
use Rattle.std.proofs.Common.{◌≡◌, ℕ, suc, ◌≤◌, Bool, true, false, cond, not, ◌&&◌, ◌||◌, List, [], ◌∷◌, ◌++◌, Option, Some, None, is_some, IsSome, IsTrue, refl, sym, ap, ◌∙◌, subst, append_assoc, length, arith}
use Rattle.std.proofs.lemmas.List.{append-nil}
use Rattle.std.specs.Ordering.{is_eq}
use Rattle.std.specs.Cmp.{eq_by_cmp_equiv}
use Rattle.std.specs.FinMap as map
use Rattle.std.specs.FinMap.{get-entries, len-entries}
use Rattle.ados_text.specs.declared.codes.TheConstants.Result2.{OBJECT_IN_USE, OBJECT_EXISTS}
use Rattle.ados_text.specs.Name.{name_cmp, name_cmp_total}
use Rattle.ados_ram.specs.declared.entries.Entry.{Entry}
use Rattle.ados_ram.specs.Place.{is_same_key, is_root, key_suffix, has_names, is_below, is_at_or_below}
use Rattle.ados_ram.specs.InUse.{InUse, holds_output}
use Rattle.ados_ram.specs.Files.{Files, Rows, IsTree, is_some_directory, IsWithin, entry_bytes, total_of}
use Rattle.ados_ram.specs.Limits.{file_limit, bytes_limit, objects_limit}
use Rattle.ados_ram.specs.declared.limits.Limits.{Limits}
use Rattle.ados_ram.specs.FileOperations.{way_fault, moved_rows, rename_of, rename_target_fault, rename_fault}
use Rattle.ados_ram.proofs.RowsLemmas.{sorted_of, AreRowsOf, own_rows, entries_rows, renamed_rows, total-sorted_of, length-sorted_of}
use Rattle.ados_ram.proofs.FilesLemmas.{same, way_clear, or_first, or_second, clash, nothing, after-append}
use Rattle.ados_ram.proofs.RenameLemmas.{same_way, false_of, cons, after-exact, Within, at_or_below, get-moved_in, get-moved_out, bytes-renamed, kind-renamed, there-renamed, total-moved_rows, length-moved_rows, CanMove, Tests}

by_tests : (held root below there same : Bool) → cond (held || root || below) (Some OBJECT_IN_USE) (cond (there && not same) (Some OBJECT_EXISTS) None) ≡ None → Tests root below there same
by_tests true root below there same h = cc
by_tests false true below there same h = cc
by_tests false false true there same h = cc
by_tests false false false true true h = record { not_root = refl; not_below = refl; free = λ t. refl }
by_tests false false false true false h = cc
by_tests false false false false same h = record { not_root = refl; not_below = refl; free = λ t. clash t }

pub can_move : (busy : InUse) (from to : List (List ℕ)) (found there : Option Entry) → rename_target_fault busy from to found there ≡ None → CanMove from to there
can_move busy from to None there h = cc
can_move busy from to (Some e) there h =
    let t = by_tests (holds_output busy from) (is_root from) (is_below from to) (is_some there) (is_same_key from to) h in
    record { not_root = t.not_root; not_below = t.not_below; free = t.free }

pub some_of : (o : Option Entry) → IsTrue (is_some_directory o) → is_some o ≡ true
some_of None h = clash h
some_of (Some e) h = refl

-- nothing is at the new place or below it except what moves itself
pub within_from : (m : Files) (from to : List (List ℕ)) → IsTree m → (is_some (map.get m to) ≡ true → is_same_key from to ≡ true) → Within to from (map.entries m)
within_from m from to files free k there at =
    elim (is_same_key from to) as (λ b. is_same_key from to ≡ b → is_at_or_below from k ≡ true) [
      | true ↦ λ t. subst (λ (d : List (List ℕ)). is_at_or_below d k ≡ true) (sym (same from to t)) at
      | false ↦ λ t. elim (key_suffix to k) as (λ o. key_suffix to k ≡ o → is_at_or_below from k ≡ true) [
        | None ↦ λ p. clash (sym (ap is_some p) ∙ at)
        | Some way ↦ λ p. clash (sym t ∙ free (taken way (subst (λ (q : List (List ℕ)). IsSome (map.get m q)) (after-exact to k way p) (subst (λ (o : Option Entry). IsSome o) (sym (get-entries m k)) there))))
      ] refl
    ] refl
  where
    taken : (way : List (List ℕ)) → IsSome (map.get m (to ++ way)) → is_some (map.get m to) ≡ true
    taken [] h = subst (λ (q : List (List ℕ)). IsSome (map.get m q)) (append-nil to) h
    taken (n ∷ ns) h = some_of (map.get m to) (files.above to n ns h)

-- the first place is above the second
pub record IsAbove (place to : List (List ℕ)) : Type 0 where
  pub name : List ℕ
  pub rest : List (List ℕ)
  pub is : to ≡ place ++ name ∷ rest

heads : (x y : List ℕ) (xs ys : List (List ℕ)) → x ∷ xs ≡ y ∷ ys → x ≡ y
heads x y xs ys e = ap (λ (l : List (List ℕ)). elim l as (λ _. List ℕ) [ [] ↦ x | z ∷ zs ↦ z ]) e

tails : (x y : List ℕ) (xs ys : List (List ℕ)) → x ∷ xs ≡ y ∷ ys → xs ≡ ys
tails x y xs ys e = ap (λ (l : List (List ℕ)). elim l as (λ _. List (List ℕ)) [ [] ↦ xs | z ∷ zs ↦ zs ]) e

is_above : (place to way tail : List (List ℕ)) → place ++ tail ≡ to ++ way → key_suffix to place ≡ None → IsAbove place to
is_above [] [] way tail e out = cc
is_above [] (x ∷ xs) way tail e out = record { name = x; rest = xs; is = refl }
is_above (p ∷ ps) [] way tail e out = cc
is_above (p ∷ ps) (t ∷ ts) way tail e out =
    let h : p ≡ t = heads p t (ps ++ tail) (ts ++ way) e in
    let equal_names : is_eq (name_cmp t p) ≡ true = subst (λ (n : List ℕ). is_eq (name_cmp n p) ≡ true) h ((eq_by_cmp_equiv name_cmp_total).refl p) in
    let above = is_above ps ts way tail (tails p t (ps ++ tail) (ts ++ way) e) (sym (ap (λ b. cond b (key_suffix ts ps) None) equal_names) ∙ out) in
    record { name = above.name; rest = above.rest; is = cons t p ts (ps ++ above.name ∷ above.rest) (sym h) above.is }

pub no_root_after : (w : List (List ℕ)) (n : List ℕ) (rest : List (List ℕ)) → not (is_root (w ++ n ∷ rest)) ≡ true
no_root_after [] n rest = refl
no_root_after (x ∷ xs) n rest = refl

-- a directory stays one if it is not moved
dir_out : (m : Files) (from to : List (List ℕ)) (name : List ℕ) (place : List (List ℕ)) → key_suffix to place ≡ None → is_at_or_below from place ≡ false → IsTrue (is_some_directory (map.get m place)) → IsTrue (is_some_directory (map.get (rename_of m from to name) place))
dir_out m from to name place out stays d =
    subst (λ (o : Option Entry). IsTrue (is_some_directory o)) (sym (get-moved_out m from to name place out ∙ ap (λ b. cond b nothing (map.get m place)) stays)) d

-- a directory above what moved: it moved too, or is above the new place
above_in : (m : Files) (from to : List (List ℕ)) (name : List ℕ) (place : List (List ℕ)) (n : List ℕ) (rest way : List (List ℕ)) → IsTree m → Within to from (map.entries m) → way_fault m [] to ≡ None → is_below from to ≡ false
    → place ++ n ∷ rest ≡ to ++ way → IsSome (map.get m (from ++ way)) → IsTrue (is_some_directory (map.get (rename_of m from to name) place))
above_in m from to name place n rest way files within clear not_below e there =
    elim (key_suffix to place) as (λ o. key_suffix to place ≡ o → IsTrue (is_some_directory (map.get (rename_of m from to name) place))) [
      | Some w ↦ λ p.
          let is : place ≡ to ++ w = after-exact to place w p in
          let all : to ++ (w ++ n ∷ rest) ≡ to ++ way = sym (append_assoc to w (n ∷ rest)) ∙ ap (λ q. q ++ n ∷ rest) (sym is) ∙ e in
          let ways : way ≡ w ++ n ∷ rest = same_way way (w ++ n ∷ rest) (sym (after-append to way) ∙ ap (key_suffix to) (sym all) ∙ after-append to (w ++ n ∷ rest)) in
          let old : IsSome (map.get m ((from ++ w) ++ n ∷ rest)) = subst (λ (q : List (List ℕ)). IsSome (map.get m q)) (ap (λ v. from ++ v) ways ∙ sym (append_assoc from w (n ∷ rest))) there in
          let dir : IsTrue (is_some_directory (map.get m (from ++ w))) = files.above (from ++ w) n rest old in
          subst (λ (q : List (List ℕ)). IsTrue (is_some_directory (map.get (rename_of m from to name) q))) (sym is)
          (subst (λ (o : Option Entry). IsTrue (is_some_directory o)) (sym (get-moved_in m from to name w within)) (kind-renamed name w (map.get m (from ++ w)) ∙ dir))
      | None ↦ λ p.
          let above : IsAbove place to = is_above place to way (n ∷ rest) e p in
          let dir : IsTrue (is_some_directory (map.get m place)) = way_clear m [] place above.name above.rest (subst (λ (q : List (List ℕ)). way_fault m [] q ≡ None) above.is clear) in
          dir_out m from to name place p (false_of _ (λ h. not_at place above h)) dir
    ] refl
  where
    not_at : (place : List (List ℕ)) → IsAbove place to → is_at_or_below from place ≡ true → ⊥
    not_at place above h =
        elim (key_suffix from place) as (λ o. key_suffix from place ≡ o → ⊥) [
          | None ↦ λ p. clash (sym (ap is_some p) ∙ h)
          | Some w ↦ λ p.
              let is : to ≡ from ++ (w ++ above.name ∷ above.rest) = above.is ∙ ap (λ q. q ++ above.name ∷ above.rest) (after-exact from place w p) ∙ append_assoc from w (above.name ∷ above.rest) in
              let below : is_below from to ≡ true = ap has_names (ap (key_suffix from) is ∙ after-append from (w ++ above.name ∷ above.rest)) ∙ no_root_after w above.name above.rest in
              clash (sym not_below ∙ below)
        ] refl

-- a place that is not at or below a directory is in none that is
none_above : (directory place : List (List ℕ)) (n : List ℕ) (rest : List (List ℕ)) → is_at_or_below directory (place ++ n ∷ rest) ≡ false → is_at_or_below directory place ≡ false
none_above directory place n rest h = false_of _ (λ t.
    elim (key_suffix directory place) as (λ o. key_suffix directory place ≡ o → ⊥) [
      | None ↦ λ p. clash (sym (ap is_some p) ∙ t)
      | Some w ↦ λ p. clash (sym h ∙ at_or_below directory (w ++ n ∷ rest) (place ++ n ∷ rest) (ap (λ q. q ++ n ∷ rest) (after-exact directory place w p) ∙ append_assoc directory w (n ∷ rest)))
    ] refl)

pub none_of : (o : Option (List (List ℕ))) → is_some o ≡ false → o ≡ None
none_of None h = refl
none_of (Some w) h = clash (sym h)

-- a directory above what did not move
above_out : (m : Files) (from to : List (List ℕ)) (name : List ℕ) (place : List (List ℕ)) (n : List ℕ) (rest : List (List ℕ)) → IsTree m → key_suffix to (place ++ n ∷ rest) ≡ None
    → IsSome (cond (is_at_or_below from (place ++ n ∷ rest)) nothing (map.get m (place ++ n ∷ rest))) → IsTrue (is_some_directory (map.get (rename_of m from to name) place))
above_out m from to name place n rest files out =
    elim (is_at_or_below from (place ++ n ∷ rest)) as (λ b. is_at_or_below from (place ++ n ∷ rest) ≡ b → IsSome (cond b nothing (map.get m (place ++ n ∷ rest))) → IsTrue (is_some_directory (map.get (rename_of m from to name) place))) [
      | true ↦ λ t h. clash h
      | false ↦ λ t h.
          let no_to : key_suffix to place ≡ None = none_of (key_suffix to place) (none_above to place n rest (ap is_some out)) in
          dir_out m from to name place no_to (none_above from place n rest t) (files.above place n rest h)
    ] refl

root_stays : (m : Files) (from to : List (List ℕ)) (name : List ℕ) → IsTree m → CanMove from to (map.get m to) → IsTrue (is_some_directory (map.get (rename_of m from to name) []))
root_stays m [] to name files can = clash (sym can.not_root)
root_stays m (x ∷ xs) [] name files can = clash (can.free (some_of (map.get m []) files.root))
root_stays m (x ∷ xs) (n ∷ ns) name files can = dir_out m (x ∷ xs) (n ∷ ns) name [] refl refl files.root

sizes_stay : {limits : Limits} (m : Files) (from to : List (List ℕ)) (name : List ℕ) (place : List (List ℕ)) → IsWithin limits m → Within to from (map.entries m) → length (entry_bytes (map.get (rename_of m from to name) place)) ≤ file_limit limits
sizes_stay {limits} m from to name place files within =
    elim (key_suffix to place) as (λ o. key_suffix to place ≡ o → length (entry_bytes (map.get (rename_of m from to name) place)) ≤ file_limit limits) [
      | Some w ↦ λ p.
          let e : length (entry_bytes (map.get (rename_of m from to name) place)) ≡ length (entry_bytes (map.get m (from ++ w))) =
          ap (λ q. length (entry_bytes (map.get (rename_of m from to name) q))) (after-exact to place w p)
          ∙ ap (λ o. length (entry_bytes o)) (get-moved_in m from to name w within) ∙ bytes-renamed name w (map.get m (from ++ w)) in
          subst (λ (k : ℕ). k ≤ file_limit limits) (sym e) (files.each_file (from ++ w))
      | None ↦ λ p. subst (λ (o : Option Entry). length (entry_bytes o) ≤ file_limit limits) (sym (get-moved_out m from to name place p))
          (elim (is_at_or_below from place) as (λ b. length (entry_bytes (cond b nothing (map.get m place))) ≤ file_limit limits) [ true ↦ omega arith | false ↦ files.each_file place ])
    ] refl

-- after a rename that is not refused
pub renamed_files : {m : Files} (busy : InUse) (from to : List (List ℕ)) (name : List ℕ) → IsTree m → rename_fault busy m from to ≡ None → IsTree (rename_of m from to name)
renamed_files {m} busy from to name files e =
    let clear : way_fault m [] to ≡ None = or_first (way_fault m [] to) _ e in
    let can : CanMove from to (map.get m to) = can_move busy from to (map.get m from) (map.get m to) (or_second (way_fault m [] to) _ e) in
    let within : Within to from (map.entries m) = within_from m from to files can.free in
    record {
      root = root_stays m from to name files can;
      above = λ place n rest h.
          elim (key_suffix to (place ++ n ∷ rest)) as (λ o. key_suffix to (place ++ n ∷ rest) ≡ o → IsTrue (is_some_directory (map.get (rename_of m from to name) place))) [
            | Some way ↦ λ p.
                let is : place ++ n ∷ rest ≡ to ++ way = after-exact to (place ++ n ∷ rest) way p in
                above_in m from to name place n rest way files within clear can.not_below is
                (there-renamed name way (map.get m (from ++ way)) (subst (λ (o : Option Entry). IsSome o) (ap (map.get (rename_of m from to name)) is ∙ get-moved_in m from to name way within) h))
            | None ↦ λ p. above_out m from to name place n rest files p (subst (λ (o : Option Entry). IsSome o) (get-moved_out m from to name (place ++ n ∷ rest) p) h)
          ] refl;
    }

-- and it is within the same limits
pub renamed-within : {limits : Limits} {m : Files} (busy : InUse) (from to : List (List ℕ)) (name : List ℕ) → IsTree m → IsWithin limits m → rename_fault busy m from to ≡ None → IsWithin limits (rename_of m from to name)
renamed-within {limits} {m} busy from to name tree files e =
    let can : CanMove from to (map.get m to) = can_move busy from to (map.get m from) (map.get m to) (or_second (way_fault m [] to) _ e) in
    let within : Within to from (map.entries m) = within_from m from to tree can.free in
    let r : AreRowsOf (sorted_of (moved_rows from to name (map.entries m))) (rename_of m from to name) = renamed_rows from to name (own_rows m) refl in
    let rows : map.entries (rename_of m from to name) ≡ sorted_of (moved_rows from to name (map.entries m)) = entries_rows _ r in
    let all = files.all_bytes in
    let objects = files.objects in
    record {
      each_file = λ place. sizes_stay m from to name place files within;
      all_bytes = subst (λ (es : Rows). total_of es ≤ bytes_limit limits) (sym rows) (omega (arith, total-sorted_of (moved_rows from to name (map.entries m)), total-moved_rows from to name (map.entries m)));
      objects = subst (λ (k : ℕ). k ≤ suc (objects_limit limits)) (sym (len-entries _ ∙ ap length rows)) (omega (arith, length-sorted_of (moved_rows from to name (map.entries m)), length-moved_rows from to name (map.entries m), len-entries m));
    }
