-- A rename leaves files: what is looked up after it, and that directories are still above what is there.
use Rattle.std.proofs.Common.{◌≡◌, ℕ, ◌+◌, Bool, true, false, cond, List, [], ◌∷◌, ◌++◌, Option, Some, None, is_some, unwrap_or, IsSome, refl, sym, ap, ◌∙◌, subst, length, arith}
use Rattle.std.specs.Ordering.{is_eq}
use Rattle.std.specs.Cmp.{eq_by_cmp_equiv}
use Rattle.std.specs.Option.{option_map}
use Rattle.std.specs.FinMap as map
use Rattle.std.specs.FinMap.{find, get-entries, get-from_entries}
use Rattle.ados_text.specs.Name.{name_cmp, name_cmp_exact}
use Rattle.ados_ram.specs.declared.entries.Entry.{Entry}
use Rattle.ados_ram.specs.Place.{place_cmp, place_cmp_total, is_same_key, is_root, key_suffix, is_below, is_at_or_below}
use Rattle.ados_ram.specs.Entry.{size_of, renamed_entry}
use Rattle.ados_ram.specs.Files.{Files, Rows, is_some_directory, entry_bytes, total_of}
use Rattle.ados_ram.specs.FileOperations.{moved_row, moved_rows, rename_of}
use Rattle.ados_ram.proofs.FilesLemmas.{equal, same, clash, nothing, after-append}

pub same_way : (a b : List (List ℕ)) → Some a ≡ Some b → a ≡ b
same_way a b e = ap (λ (o : Option (List (List ℕ))). unwrap_or o a) e

self : (a : List (List ℕ)) → is_same_key a a ≡ true
self a = (eq_by_cmp_equiv place_cmp_total).refl a

pub false_of : (b : Bool) → (b ≡ true → ⊥) → b ≡ false
false_of true h = absurd (h refl)
false_of false h = refl

pub cons : {A : Type 0} (x y : A) (xs ys : List A) → x ≡ y → xs ≡ ys → x ∷ xs ≡ y ∷ ys
cons x y xs ys e f = ap (λ z. z ∷ xs) e ∙ ap (λ zs. y ∷ zs) f

-- a place is the directory followed by the path from it
pub after-exact : (place q way : List (List ℕ)) → key_suffix place q ≡ Some way → q ≡ place ++ way
after-exact [] q way e = same_way q way e
after-exact (n ∷ ns) [] way e = cc
after-exact (n ∷ ns) (x ∷ xs) way e =
    elim (is_eq (name_cmp n x)) as (λ b. is_eq (name_cmp n x) ≡ b → cond b (key_suffix ns xs) None ≡ Some way → x ∷ xs ≡ n ∷ (ns ++ way)) [
      | true ↦ λ t g. cons x n xs (ns ++ way) (sym (name_cmp_exact n x (equal (name_cmp n x) t))) (after-exact ns xs way g)
      | false ↦ λ t g. cc
    ] refl e

-- paths from the same directory are equal just if their places are
pub same_after : (place a b : List (List ℕ)) → is_same_key (place ++ a) (place ++ b) ≡ is_same_key a b
same_after place a b =
    elim (is_same_key a b) as (λ t. is_same_key a b ≡ t → is_same_key (place ++ a) (place ++ b) ≡ t) [
      | true ↦ λ t. subst (λ (w : List (List ℕ)). is_same_key (place ++ a) (place ++ w) ≡ true) (same a b t) (self (place ++ a))
      | false ↦ λ t. false_of _ (λ h.
          let e : a ≡ b = same_way a b (sym (after-append place a) ∙ ap (key_suffix place) (same (place ++ a) (place ++ b) h) ∙ after-append place b) in
          clash (sym t ∙ subst (λ (w : List (List ℕ)). is_same_key a w ≡ true) e (self a)))
    ] refl

-- what is at a place or below it is at another or below that
abbrev pub Within : List (List ℕ) → List (List ℕ) → Rows → Type 0
Within to from es = (k : List (List ℕ)) → IsSome (find place_cmp k es) → is_at_or_below to k ≡ true → is_at_or_below from k ≡ true

pub later : (k : List (List ℕ)) (e : List (List ℕ) × Entry) (es : Rows) → IsSome (find place_cmp k es) → IsSome (find place_cmp k (e ∷ es))
later k e es h = elim (is_same_key k e.0) as (λ b. IsSome (cond b (Some e.1) (find place_cmp k es))) [ true ↦ refl | false ↦ h ]

pub here : (e : List (List ℕ) × Entry) (es : Rows) → IsSome (find place_cmp e.0 (e ∷ es))
here e es = subst (λ (b : Bool). IsSome (cond b (Some e.1) (find place_cmp e.0 es))) (sym (self e.0)) refl

pub at_or_below : (place way k : List (List ℕ)) → k ≡ place ++ way → is_at_or_below place k ≡ true
at_or_below place way k e = ap is_some (ap (key_suffix place) e ∙ after-append place way)

-- what is found at the places that things moved to
pub find-moved_in : (from to : List (List ℕ)) (name : List ℕ) (es : Rows) (way : List (List ℕ)) → Within to from es
    → find place_cmp (to ++ way) (moved_rows from to name es) ≡ option_map (renamed_entry name way) (find place_cmp (from ++ way) es)
find-moved_in from to name [] way within = refl
find-moved_in from to name (e ∷ es) way within =
    let rest = find-moved_in from to name es way (λ k h. within k (later k e es h)) in
    elim (key_suffix from e.0) as (λ o. key_suffix from e.0 ≡ o → find place_cmp (to ++ way) (moved_row to name e.0 e.1 o ∷ moved_rows from to name es) ≡ option_map (renamed_entry name way) (cond (is_same_key (from ++ way) e.0) (Some e.1) (find place_cmp (from ++ way) es))) [
      | None ↦ λ p.
          let no_to : is_same_key (to ++ way) e.0 ≡ false = false_of _ (λ h. clash (sym (ap is_some p) ∙ within e.0 (here e es) (at_or_below to way e.0 (sym (same (to ++ way) e.0 h))))) in
          let no_from : is_same_key (from ++ way) e.0 ≡ false = false_of _ (λ h. clash (sym (ap is_some p) ∙ at_or_below from way e.0 (sym (same (from ++ way) e.0 h)))) in
          ap (λ b. cond b (Some e.1) (find place_cmp (to ++ way) (moved_rows from to name es))) no_to ∙ rest
          ∙ ap (λ b. option_map (renamed_entry name way) (cond b (Some e.1) (find place_cmp (from ++ way) es))) (sym no_from)
      | Some w ↦ λ p.
          let from_way : is_same_key (from ++ way) e.0 ≡ is_same_key way w = ap (is_same_key (from ++ way)) (after-exact from e.0 w p) ∙ same_after from way w in
          ap (λ b. cond b (Some (renamed_entry name w e.1)) (find place_cmp (to ++ way) (moved_rows from to name es))) (same_after to way w)
          ∙ elim (is_same_key way w) as (λ b. is_same_key way w ≡ b → cond b (Some (renamed_entry name w e.1)) (find place_cmp (to ++ way) (moved_rows from to name es)) ≡ option_map (renamed_entry name way) (cond b (Some e.1) (find place_cmp (from ++ way) es))) [
            | true ↦ λ t. ap (λ (x : List (List ℕ)). Some (renamed_entry name x e.1)) (sym (same way w t))
            | false ↦ λ t. rest
          ] refl
          ∙ ap (λ b. option_map (renamed_entry name way) (cond b (Some e.1) (find place_cmp (from ++ way) es))) (sym from_way)
    ] refl

-- what is found elsewhere
pub find-moved_out : (from to : List (List ℕ)) (name : List ℕ) (es : Rows) (q : List (List ℕ)) → key_suffix to q ≡ None
    → find place_cmp q (moved_rows from to name es) ≡ cond (is_at_or_below from q) nothing (find place_cmp q es)
find-moved_out from to name [] q out = elim (is_at_or_below from q) as (λ b. nothing ≡ cond b nothing nothing) [ true ↦ refl | false ↦ refl ]
find-moved_out from to name (e ∷ es) q out =
    let rest = find-moved_out from to name es q out in
    elim (key_suffix from e.0) as (λ o. key_suffix from e.0 ≡ o → find place_cmp q (moved_row to name e.0 e.1 o ∷ moved_rows from to name es) ≡ cond (is_at_or_below from q) nothing (cond (is_same_key q e.0) (Some e.1) (find place_cmp q es))) [
      | None ↦ λ p.
          elim (is_same_key q e.0) as (λ b. is_same_key q e.0 ≡ b → cond b (Some e.1) (find place_cmp q (moved_rows from to name es)) ≡ cond (is_at_or_below from q) nothing (cond b (Some e.1) (find place_cmp q es))) [
            | true ↦ λ t. sym (ap (λ b. cond b nothing (Some e.1)) (ap is_some (ap (key_suffix from) (same q e.0 t) ∙ p)))
            | false ↦ λ t. rest
          ] refl
      | Some w ↦ λ p.
          let no_to : is_same_key q (to ++ w) ≡ false = false_of _ (λ h. clash (sym (ap is_some out) ∙ at_or_below to w q (same q (to ++ w) h))) in
          ap (λ b. cond b (Some (renamed_entry name w e.1)) (find place_cmp q (moved_rows from to name es))) no_to ∙ rest
          ∙ elim (is_same_key q e.0) as (λ b. is_same_key q e.0 ≡ b → cond (is_at_or_below from q) nothing (find place_cmp q es) ≡ cond (is_at_or_below from q) nothing (cond b (Some e.1) (find place_cmp q es))) [
            | true ↦ λ t.
                let moved : is_at_or_below from q ≡ true = ap is_some (ap (key_suffix from) (same q e.0 t) ∙ p) in
                ap (λ b. cond b nothing (find place_cmp q es)) moved ∙ sym (ap (λ b. cond b nothing (Some e.1)) moved)
            | false ↦ λ t. refl
          ] refl
    ] refl

pub get-moved_in : (m : Files) (from to : List (List ℕ)) (name : List ℕ) (way : List (List ℕ)) → Within to from (map.entries m) → map.get (rename_of m from to name) (to ++ way) ≡ option_map (renamed_entry name way) (map.get m (from ++ way))
get-moved_in m from to name way within =
    get-from_entries place_cmp_total _ (to ++ way) ∙ find-moved_in from to name (map.entries m) way within ∙ ap (option_map (renamed_entry name way)) (sym (get-entries m (from ++ way)))

pub get-moved_out : (m : Files) (from to : List (List ℕ)) (name : List ℕ) (q : List (List ℕ)) → key_suffix to q ≡ None → map.get (rename_of m from to name) q ≡ cond (is_at_or_below from q) nothing (map.get m q)
get-moved_out m from to name q out =
    get-from_entries place_cmp_total _ q ∙ find-moved_out from to name (map.entries m) q out ∙ ap (cond (is_at_or_below from q) nothing) (sym (get-entries m q))

-- what moves keeps its size, and its kind
size-renamed : (name : List ℕ) (way : List (List ℕ)) (e : Entry) → size_of (renamed_entry name way e) ≡ size_of e
size-renamed name [] e = refl
size-renamed name (n ∷ ns) e = refl

pub bytes-renamed : (name : List ℕ) (way : List (List ℕ)) (o : Option Entry) → length (entry_bytes (option_map (renamed_entry name way) o)) ≡ length (entry_bytes o)
bytes-renamed name way None = refl
bytes-renamed name way (Some e) = size-renamed name way e

pub kind-renamed : (name : List ℕ) (way : List (List ℕ)) (o : Option Entry) → is_some_directory (option_map (renamed_entry name way) o) ≡ is_some_directory o
kind-renamed name way None = refl
kind-renamed name [] (Some e) = refl
kind-renamed name (n ∷ ns) (Some e) = refl

pub there-renamed : (name : List ℕ) (way : List (List ℕ)) (o : Option Entry) → IsSome (option_map (renamed_entry name way) o) → IsSome o
there-renamed name way None h = h
there-renamed name way (Some e) h = refl

pub total-moved_rows : (from to : List (List ℕ)) (name : List ℕ) (es : Rows) → total_of (moved_rows from to name es) ≡ total_of es
total-moved_rows from to name [] = refl
total-moved_rows from to name (e ∷ es) =
    elim (key_suffix from e.0) as (λ o. size_of (moved_row to name e.0 e.1 o).1 + total_of (moved_rows from to name es) ≡ size_of e.1 + total_of es) [
      | None ↦ omega (arith, total-moved_rows from to name es)
      | Some w ↦ omega (arith, total-moved_rows from to name es, size-renamed name w e.1)
    ]

pub length-moved_rows : (from to : List (List ℕ)) (name : List ℕ) (es : Rows) → length (moved_rows from to name es) ≡ length es
length-moved_rows from to name [] = refl
length-moved_rows from to name (e ∷ es) = omega (arith, length-moved_rows from to name es)

-- what follows if a rename is not refused
pub record CanMove (from to : List (List ℕ)) (there : Option Entry) : Type 0 where
  pub not_root : is_root from ≡ false
  pub not_below : is_below from to ≡ false
  pub free : is_some there ≡ true → is_same_key from to ≡ true

pub record Tests (root below there same : Bool) : Type 0 where
  pub not_root : root ≡ false
  pub not_below : below ≡ false
  pub free : there ≡ true → same ≡ true
