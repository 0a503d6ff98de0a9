-- Look-ups in the rows of a branch go to the object of the first name.
use Rattle.std.proofs.Common.{◌≡◌, ℕ, Bool, true, false, T, cond, IsTrue, List, [], ◌∷◌, ◌++◌, Option, Some, None, refl, sym, ap, ◌∙◌, subst, length, arith}
use Rattle.std.specs.declared.cmp.Ordering.{Ordering}
use Rattle.std.specs.declared.cmp.Ordering.TheVariants.{Less, Equal, Greater}
use Rattle.std.specs.Ordering.{is_eq, ordering_then}
use Rattle.std.specs.FinMap.{is_sorted, find}
use Rattle.std.specs.FinMap.Entries.{below_all}
use Rattle.ados_text.specs.Name.{name_cmp, name_cmp_total}
use Rattle.ados_ram.specs.declared.entries.Entry.{Entry}
use Rattle.ados_ram.specs.Place.{Key, key_of, place_cmp, key_suffix}
use Rattle.ados_ram.specs.Files.{Rows}
use Rattle.ados_ram.specs.Tree.{Kids, rows_under_name, flatten, rows_of, with_way, subtree_rows, rows_found}
use Rattle.ados_ram.proofs.RowsLemmas.{first, second, tied as less}

pub holds : (b : Bool) → IsTrue b → T b
holds b h = subst T (sym h) tt

tied : (r : Ordering) → is_eq r ≡ true → r ≡ Equal
tied Less p = absurd (subst T (sym p) tt)
tied Equal p = refl
tied Greater p = absurd (subst T (sym p) tt)

-- rows that begin with a name other than the one looked up
with_append : (o : Option Key) (e : Entry) (a b : Rows) → with_way o e a ++ b ≡ with_way o e (a ++ b)
with_append None e a b = refl
with_append (Some w) e a b = refl

from_under : (x n : List ℕ) (xs : Key) (r rest : Rows) → subtree_rows (x ∷ xs) (rows_under_name n r ++ rest) ≡ cond (is_eq (name_cmp x n)) (subtree_rows xs r ++ subtree_rows (x ∷ xs) rest) (subtree_rows (x ∷ xs) rest)
from_under x n xs [] rest = elim (is_eq (name_cmp x n)) as (λ b. subtree_rows (x ∷ xs) rest ≡ cond b (subtree_rows (x ∷ xs) rest) (subtree_rows (x ∷ xs) rest)) [ true ↦ refl | false ↦ refl ]
from_under x n xs (e ∷ r) rest =
    let next = from_under x n xs r rest in
    let old = subtree_rows (x ∷ xs) rest in
    elim (is_eq (name_cmp x n)) as (λ b. subtree_rows (x ∷ xs) (rows_under_name n r ++ rest) ≡ cond b (subtree_rows xs r ++ old) old → with_way (cond b (key_suffix xs e.0) None) e.1 (subtree_rows (x ∷ xs) (rows_under_name n r ++ rest)) ≡ cond b (with_way (key_suffix xs e.0) e.1 (subtree_rows xs r) ++ old) old) [
      | true ↦ λ h. ap (λ (rows : Rows). with_way (key_suffix xs e.0) e.1 rows) h ∙ sym (with_append (key_suffix xs e.0) e.1 (subtree_rows xs r) old)
      | false ↦ λ h. h
    ] next

append-nil : (r : Rows) → r ++ [] ≡ r
append-nil [] = refl
append-nil (e ∷ r) = ap (λ (t : Rows). e ∷ t) (append-nil r)

-- the rows from a place are found in the object of the first name
none_from : (x n : List ℕ) (xs : Key) (ks : Kids) → name_cmp x n ≡ Less → T (below_all name_cmp n ks) → subtree_rows (x ∷ xs) (flatten ks) ≡ []
none_from x n xs [] p h = refl
none_from x n xs (k ∷ ks) p h =
    from_under x k.0 xs k.1 (flatten ks)
    ∙ ap (λ r. cond (is_eq r) (subtree_rows xs k.1 ++ subtree_rows (x ∷ xs) (flatten ks)) (subtree_rows (x ∷ xs) (flatten ks))) (name_cmp_total.trans x n k.0 p (less _ (first _ _ h)))
    ∙ none_from x n xs ks p (second _ _ h)

none_tied : (x n : List ℕ) (xs : Key) (ks : Kids) → name_cmp x n ≡ Equal → T (below_all name_cmp n ks) → subtree_rows (x ∷ xs) (flatten ks) ≡ []
none_tied x n xs [] p h = refl
none_tied x n xs (k ∷ ks) p h =
    from_under x k.0 xs k.1 (flatten ks)
    ∙ ap (λ r. cond (is_eq r) (subtree_rows xs k.1 ++ subtree_rows (x ∷ xs) (flatten ks)) (subtree_rows (x ∷ xs) (flatten ks))) (name_cmp_total.congr x n k.0 p ∙ less _ (first _ _ h))
    ∙ none_tied x n xs ks p (second _ _ h)

pub from-flatten : (x : List ℕ) (xs : Key) (ks : Kids) → T (is_sorted name_cmp ks) → subtree_rows (x ∷ xs) (flatten ks) ≡ subtree_rows xs (rows_found (find name_cmp x ks))
from-flatten x xs [] h = refl
from-flatten x xs (k ∷ ks) h =
    let rest = from-flatten x xs ks (second _ _ h) in
    from_under x k.0 xs k.1 (flatten ks)
    ∙ elim (name_cmp x k.0) as (λ o. name_cmp x k.0 ≡ o → cond (is_eq o) (subtree_rows xs k.1 ++ subtree_rows (x ∷ xs) (flatten ks)) (subtree_rows (x ∷ xs) (flatten ks)) ≡ subtree_rows xs (rows_found (cond (is_eq o) (Some k.1) (find name_cmp x ks)))) [
      | Less ↦ λ p. rest
      | Equal ↦ λ p. ap (λ (t : Rows). subtree_rows xs k.1 ++ t) (none_tied x k.0 xs ks p (first _ _ h)) ∙ append-nil (subtree_rows xs k.1)
      | Greater ↦ λ p. rest
    ] refl

-- a lookup of the place itself
pub find-from : (key q : Key) (es : Rows) → find place_cmp q (subtree_rows key es) ≡ find place_cmp (key ++ q) es
find-from key q [] = refl
find-from key q (e ∷ es) =
    let next = find-from key q es in
    past key q e.0 e.1 (subtree_rows key es) (find place_cmp (key ++ q) es) next
  where
    past : (key q p : Key) (e : Entry) (rows : Rows) (old : Option Entry) → find place_cmp q rows ≡ old → find place_cmp q (with_way (key_suffix key p) e rows) ≡ cond (is_eq (place_cmp (key ++ q) p)) (Some e) old
    past [] q p e rows old h = ap (λ o. cond (is_eq (place_cmp q p)) (Some e) o) h
    past (n ∷ ns) q [] e rows old h = h
    past (n ∷ ns) q (x ∷ xs) e rows old h =
        elim (name_cmp n x) as (λ o. find place_cmp q (with_way (cond (is_eq o) (key_suffix ns xs) None) e rows) ≡ cond (is_eq (ordering_then o (place_cmp (ns ++ q) xs))) (Some e) old) [
          | Less ↦ h
          | Equal ↦ past ns q xs e rows old h
          | Greater ↦ h
        ]

-- every row is from the root
pub from-root : (es : Rows) → subtree_rows [] es ≡ es
from-root [] = refl
from-root (e ∷ es) = ap (λ (t : Rows). e ∷ t) (from-root es)

-- from the object of the first name
pub from_kid : (entry : Entry) (ks : Kids) (rows : Rows) (x : List ℕ) (xs key : Key) → rows_of entry ks ≡ rows → IsTrue (is_sorted name_cmp ks) → key ≡ x ∷ xs → subtree_rows key rows ≡ subtree_rows xs (rows_found (find name_cmp x ks))
from_kid entry ks rows x xs key view sorted is = ap (λ (k : Key). subtree_rows k rows) is ∙ ap (subtree_rows (x ∷ xs)) (sym view) ∙ from-flatten x xs ks (holds _ sorted)

pub from_none : (names : Key) (rows : Rows) → length names ≡ 0 → rows ≡ subtree_rows (key_of names) rows
from_none [] rows e = sym (from-root rows)
from_none (n ∷ ns) rows e = absurd (omega arith)

-- the entry at a place is at the empty path from there
pub find-here : (key : Key) (es r : Rows) → r ≡ subtree_rows key es → find place_cmp [] r ≡ find place_cmp key es
find-here key es r e = ap (find place_cmp []) e ∙ find-from key [] es ∙ ap (λ (k : Key). find place_cmp k es) (keys-nil key)
  where
    keys-nil : (k : Key) → k ++ [] ≡ k
    keys-nil [] = refl
    keys-nil (n ∷ ns) = ap (λ (t : Key). n ∷ t) (keys-nil ns)

-- deeper from a place
further : (key more p : Key) (e : Entry) (rows : Rows) → subtree_rows more (with_way (key_suffix key p) e rows) ≡ with_way (key_suffix (key ++ more) p) e (subtree_rows more rows)
further [] more p e rows = refl
further (n ∷ ns) more [] e rows = refl
further (n ∷ ns) more (x ∷ xs) e rows =
    elim (name_cmp n x) as (λ o. subtree_rows more (with_way (cond (is_eq o) (key_suffix ns xs) None) e rows) ≡ with_way (cond (is_eq o) (key_suffix (ns ++ more) xs) None) e (subtree_rows more rows)) [
      | Less ↦ refl
      | Equal ↦ further ns more xs e rows
      | Greater ↦ refl
    ]

pub from-further : (key more : Key) (es : Rows) → subtree_rows more (subtree_rows key es) ≡ subtree_rows (key ++ more) es
from-further key more [] = refl
from-further key more (e ∷ es) = further key more e.0 e.1 (subtree_rows key es) ∙ ap (with_way (key_suffix (key ++ more) e.0) e.1) (from-further key more es)
