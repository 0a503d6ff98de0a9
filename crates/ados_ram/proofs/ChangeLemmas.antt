-- A change in one object of a directory is a change of the rows at a place and below it.
use Rattle.std.proofs.Common.{◌≡◌, ℕ, Bool, true, false, T, cond, not, ◌==◌, ◌-◌, suc, slice_index_or, IsTrue, IfOk, List, [], ◌∷◌, ◌++◌, Option, Some, None, IsSome, Result, Ok, Err, refl, sym, ap, ◌∙◌, subst, length, arith}
use Rattle.std.specs.declared.cmp.Ordering.{Ordering}
use Rattle.std.specs.declared.cmp.Ordering.TheVariants.{Less, Equal, Greater}
use Rattle.std.specs.Ordering.{is_eq, is_lt, ordering_then, ordering_reverse, eq_by_cmp}
use Rattle.std.specs.Cmp.{alike_right, tied_itself}
use Rattle.std.proofs.lemmas.Bool.Decides.{nat_tests}
use Rattle.std.specs.FinMap.{is_sorted, find, put}
use Rattle.std.specs.FinMap.Entries.{below_all, by_order, is_sorted-put, find-put, is_sorted-where_key, find-where_key, where_key}
use Rattle.ados_text.specs.Name.{name_cmp, name_cmp_total, name_cmp_exact}
use Rattle.ados_ram.specs.declared.entries.Entry.{Entry}
use Rattle.ados_ram.specs.Place.{Key, key_of, place_cmp, key_suffix, is_root, is_same_key, last_name}
use Rattle.ados_ram.specs.Files.{Rows}
use Rattle.ados_ram.specs.Tree.{Kid, Kids, IsSubtree, AllSubtrees, AreKids, rows_under_name, flatten, rows_of, with_flat, branch_rows, rows_found, entry_by_way, IsReplaced, IsEntryAt, IsNamed, parent_key, replace_kid, remove_kid}
use Rattle.ados_ram.proofs.RowsLemmas.{both, first, is_true, second, tied as less}
use Rattle.ados_ram.proofs.TreeLemmas.{holds, from-flatten, find-from, from-root}

pub if_ok : {X E : Type 0} {P Q : X → Type 0} (r : Result X E) → ((x : X) → P x → Q x) → IfOk r P → IfOk r Q
if_ok (Ok x) h p = h x p
if_ok (Err e) h p = p

-- a lookup below a name
pub find-flatten : (y : List ℕ) (ys : Key) (ks : Kids) → T (is_sorted name_cmp ks) → find place_cmp (y ∷ ys) (flatten ks) ≡ find place_cmp ys (rows_found (find name_cmp y ks))
find-flatten y ys ks h = sym (find-from (y ∷ []) ys (flatten ks)) ∙ ap (find place_cmp ys) (from-flatten y [] ks h ∙ from-root (rows_found (find name_cmp y ks)))

none : Option Entry
none = None

find-root : (ks : Kids) → find place_cmp [] (flatten ks) ≡ None
find-root [] = refl
find-root (k ∷ ks) = nil_under k.0 k.1 (flatten ks) ∙ find-root ks
  where
    nil_under : (n : List ℕ) (r rest : Rows) → find place_cmp [] (rows_under_name n r ++ rest) ≡ find place_cmp [] rest
    nil_under n [] rest = refl
    nil_under n (e ∷ r) rest = nil_under n r rest

-- what is found after a change of one object
pub found : (entry : Entry) (x : List ℕ) (xs : Key) (sub : Rows) (ks new : Kids) (o : Option Rows) → T (is_sorted name_cmp ks) → T (is_sorted name_cmp new)
    → ((y : List ℕ) → find name_cmp y new ≡ cond (is_eq (name_cmp y x)) o (find name_cmp y ks))
    → ((ys : Key) → find place_cmp ys (rows_found o) ≡ entry_by_way (key_suffix xs ys) sub (find place_cmp ys (rows_found (find name_cmp x ks))))
    → (q : Key) → find place_cmp q (rows_of entry new) ≡ entry_by_way (key_suffix (x ∷ xs) q) sub (find place_cmp q (rows_of entry ks))
found entry x xs sub ks new o s t kids below [] = refl
found entry x xs sub ks new o s t kids below (y ∷ ys) =
    find-flatten y ys new t
    ∙ ap (λ k. find place_cmp ys (rows_found k)) (kids y)
    ∙ elim (name_cmp x y) as (λ r. name_cmp x y ≡ r → find place_cmp ys (rows_found (cond (is_eq (name_cmp y x)) o (find name_cmp y ks))) ≡ entry_by_way (cond (is_eq r) (key_suffix xs ys) None) sub (find place_cmp ys (rows_found (find name_cmp y ks)))) [
      | Less ↦ λ p. ap (λ r. find place_cmp ys (rows_found (cond (is_eq r) o (find name_cmp y ks)))) (name_cmp_total.antisymm y x ∙ ap ordering_reverse p)
      | Greater ↦ λ p. ap (λ r. find place_cmp ys (rows_found (cond (is_eq r) o (find name_cmp y ks)))) (name_cmp_total.antisymm y x ∙ ap ordering_reverse p)
      | Equal ↦ λ p.
          ap (λ r. find place_cmp ys (rows_found (cond (is_eq r) o (find name_cmp y ks)))) (name_cmp_total.antisymm y x ∙ ap ordering_reverse p)
          ∙ below ys ∙ ap (λ n. entry_by_way (key_suffix xs ys) sub (find place_cmp ys (rows_found (find name_cmp n ks)))) (name_cmp_exact x y p)
    ] refl
    ∙ ap (entry_by_way (key_suffix (x ∷ xs) (y ∷ ys)) sub) (sym (find-flatten y ys ks s))

as_filter : (x : List ℕ) (ks : Kids) → remove_kid x ks ≡ where_key name_cmp (λ n. not (eq_by_cmp name_cmp x n)) ks
as_filter x [] = refl
as_filter x (k ∷ ks) =
    elim (eq_by_cmp name_cmp x k.0) as (λ b. cond b (remove_kid x ks) (k ∷ remove_kid x ks) ≡ cond (not b) (k ∷ where_key name_cmp (λ n. not (eq_by_cmp name_cmp x n)) ks) (where_key name_cmp (λ n. not (eq_by_cmp name_cmp x n)) ks)) [
      | true ↦ as_filter x ks
      | false ↦ ap (λ (r : Kids). k ∷ r) (as_filter x ks)
    ]

all_put : (x : List ℕ) (r : Rows) (ks : Kids) → AllSubtrees ks → IsSubtree r → AllSubtrees (put name_cmp x r ks)
all_put x r [] a h = (h, tt)
all_put x r (k ∷ ks) a h =
    elim (name_cmp x k.0) as (λ o. AllSubtrees (by_order o ((x, r) ∷ k ∷ ks) ((k.0, r) ∷ ks) (k ∷ put name_cmp x r ks))) [
      | Less ↦ (h, a)
      | Equal ↦ (h, a.1)
      | Greater ↦ (a.0, all_put x r ks a.1 h)
    ]

all_without : (x : List ℕ) (ks : Kids) → AllSubtrees ks → AllSubtrees (remove_kid x ks)
all_without x [] a = tt
all_without x (k ∷ ks) a =
    elim (is_eq (name_cmp x k.0)) as (λ b. AllSubtrees (cond b (remove_kid x ks) (k ∷ remove_kid x ks))) [
      | true ↦ all_without x ks a.1
      | false ↦ (a.0, all_without x ks a.1)
    ]

abbrev pub IsInOrder : Option Kid → Type 0
IsInOrder None = Unit {0}
IsInOrder (Some k) = IsSubtree k.1

pub sorted-with : (x : List ℕ) (new : Option Kid) (ks : Kids) → IsTrue (is_sorted name_cmp ks) → IsTrue (is_sorted name_cmp (replace_kid x new ks))
sorted-with x None ks h = is_true _ (subst (λ (k : Kids). T (is_sorted name_cmp k)) (sym (as_filter x ks)) (is_sorted-where_key name_cmp _ ks (holds _ h)))
sorted-with x (Some k) ks h = is_true _ (is_sorted-put name_cmp name_cmp_total x k.1 ks (holds _ h))

pub kids-are : (x : List ℕ) (new : Option Kid) (ks out : Kids) → AreKids ks → IsInOrder new → out ≡ replace_kid x new ks → AreKids out
kids-are x None ks out a h e = record {
  sorted = subst (λ (k : Kids). IsTrue (is_sorted name_cmp k)) (sym e) (sorted-with x None ks a.sorted);
  all = subst AllSubtrees (sym e) (all_without x ks a.all);
}
kids-are x (Some k) ks out a h e = record {
  sorted = subst (λ (k : Kids). IsTrue (is_sorted name_cmp k)) (sym e) (sorted-with x (Some k) ks a.sorted);
  all = subst AllSubtrees (sym e) (all_put x k.1 ks a.all h);
}

abbrev pub rows_in : Option Kid → Option Rows
rows_in None = None
rows_in (Some k) = Some k.1

turned : {A : Type 0} (b : Bool) (x y : A) → cond (not b) x y ≡ cond b y x
turned true x y = refl
turned false x y = refl

flip : (x y : List ℕ) → is_eq (name_cmp x y) ≡ is_eq (name_cmp y x)
flip x y = sym (ap is_eq (name_cmp_total.antisymm y x) ∙ still (name_cmp x y))
  where
    still : (o : Ordering) → is_eq (ordering_reverse o) ≡ is_eq o
    still Less = refl
    still Equal = refl
    still Greater = refl

pub find-with : (x : List ℕ) (new : Option Kid) (ks : Kids) (y : List ℕ) → find name_cmp y (replace_kid x new ks) ≡ cond (is_eq (name_cmp y x)) (rows_in new) (find name_cmp y ks)
find-with x None ks y =
    ap (find name_cmp y) (as_filter x ks)
    ∙ find-where_key name_cmp (λ n. not (eq_by_cmp name_cmp x n)) y (λ n t. ap (λ r. not (is_eq r)) (sym (alike_right name_cmp_total y n x t))) ks
    ∙ turned (eq_by_cmp name_cmp x y) _ _
    ∙ ap (λ b. cond b (rows_in None) (find name_cmp y ks)) (flip x y)
find-with x (Some k) ks y = find-put name_cmp name_cmp_total y x k.1 ks

-- the rows of objects in order are in order
below_append : (q : Key) (a b : Rows) → T (below_all place_cmp q a) → T (below_all place_cmp q b) → T (below_all place_cmp q (a ++ b))
below_append q [] b h g = g
below_append q (e ∷ a) b h g = both _ _ (first _ _ h) (below_append q a b (second _ _ h) g)

below_under : (n m : List ℕ) (p : Key) (r : Rows) → name_cmp n m ≡ Less → T (below_all place_cmp (n ∷ p) (rows_under_name m r))
below_under n m p [] l = tt
below_under n m p (e ∷ r) l = both _ _ (subst (λ o. T (is_lt (ordering_then o (place_cmp p e.0)))) (sym l) tt) (below_under n m p r l)

below_flatten : (n : List ℕ) (p : Key) (ks : Kids) → T (below_all name_cmp n ks) → T (below_all place_cmp (n ∷ p) (flatten ks))
below_flatten n p [] h = tt
below_flatten n p (k ∷ ks) h = below_append (n ∷ p) (rows_under_name k.0 k.1) (flatten ks) (below_under n k.0 p k.1 (less _ (first _ _ h))) (below_flatten n p ks (second _ _ h))

under_below : (n : List ℕ) (p : Key) (r : Rows) → T (below_all place_cmp p r) → T (below_all place_cmp (n ∷ p) (rows_under_name n r))
under_below n p [] h = tt
under_below n p (e ∷ r) h = both _ _ (subst (λ o. T (is_lt (ordering_then o (place_cmp p e.0)))) (sym (tied_itself name_cmp_total n)) (first _ _ h)) (under_below n p r (second _ _ h))

sorted_under : (n : List ℕ) (r rest : Rows) → T (is_sorted place_cmp r) → ((p : Key) → T (below_all place_cmp (n ∷ p) rest)) → T (is_sorted place_cmp rest) → T (is_sorted place_cmp (rows_under_name n r ++ rest))
sorted_under n [] rest h low g = g
sorted_under n (e ∷ r) rest h low g = both _ _ (below_append (n ∷ e.0) (rows_under_name n r) rest (under_below n e.0 r (first _ _ h)) (low e.0)) (sorted_under n r rest (second _ _ h) low g)

sorted_flatten : (ks : Kids) → T (is_sorted name_cmp ks) → AllSubtrees ks → T (is_sorted place_cmp (flatten ks))
sorted_flatten [] h a = tt
sorted_flatten (k ∷ ks) h a = sorted_under k.0 k.1 (flatten ks) (holds _ a.0.sorted) (λ p. below_flatten k.0 p ks (first _ _ h)) (sorted_flatten ks (second _ _ h) a.1)

root_under : (n : List ℕ) (r : Rows) → T (below_all place_cmp [] (rows_under_name n r))
root_under n [] = tt
root_under n (e ∷ r) = root_under n r

root_below : (ks : Kids) → T (below_all place_cmp [] (flatten ks))
root_below [] = tt
root_below (k ∷ ks) = below_append [] (rows_under_name k.0 k.1) (flatten ks) (root_under k.0 k.1) (root_below ks)

pub subtree : (entry : Entry) (ks : Kids) → AreKids ks → IsSubtree (rows_of entry ks)
subtree entry ks a = record { sorted = is_true _ (both _ _ (root_below ks) (sorted_flatten ks (holds _ a.sorted) a.all)); top = refl }

-- an object with other objects in it
pub replaced : (entry : Entry) (x : List ℕ) (xs key : Key) (sub rows : Rows) (new : Option Kid) (ks out : Kids) (b : Rows) → rows_of entry ks ≡ rows → AreKids ks → IsInOrder new → out ≡ replace_kid x new ks → key ≡ x ∷ xs
    → ((ys : Key) → find place_cmp ys (rows_found (rows_in new)) ≡ entry_by_way (key_suffix xs ys) sub (find place_cmp ys (rows_found (find name_cmp x ks))))
    → b ≡ with_flat rows out → IsReplaced key sub rows b
replaced entry x xs key sub rows new ks out b view a h e is below made =
    let are : AreKids out = kids-are x new ks out a h e in
    let all : b ≡ rows_of entry out = made ∙ ap (λ (r : Rows). with_flat r out) (sym view) in
    record {
      whole = subst IsSubtree (sym all) (subtree entry out are);
      found = λ q.
          ap (find place_cmp q) all
          ∙ found entry x xs sub ks out (rows_in new) (holds _ a.sorted) (holds _ are.sorted) (λ y. ap (find name_cmp y) e ∙ find-with x new ks y) below q
          ∙ ap (λ (k : Key). entry_by_way (key_suffix k q) sub (find place_cmp q (rows_of entry ks))) (sym is)
          ∙ ap (λ (r : Rows). entry_by_way (key_suffix key q) sub (find place_cmp q r)) view;
    }

-- the last name of a path: nothing is left to look up
pub leaf : (new : Option Kid) (ys : Key) (old : Option Entry) → find place_cmp ys (rows_found (rows_in new)) ≡ entry_by_way (key_suffix [] ys) (branch_rows new) old
leaf None ys old = refl
leaf (Some k) ys old = refl

pub in_order : (key : Key) (new : Option Kid) → IsNamed key new → IsInOrder new
in_order key None h = tt
in_order key (Some k) h = h.1

pub last-deeper : (x y : List ℕ) (ys : Key) → last_name (x ∷ y ∷ ys) ≡ last_name (y ∷ ys)
last-deeper x y ys =
    let e : length (x ∷ y ∷ ys) - 1 ≡ suc (length (y ∷ ys) - 1) = omega arith in
    ap (λ (i : ℕ). slice_index_or (x ∷ y ∷ ys) i []) e

no_root : {A : Type 0} → true ≡ false → A
no_root h = absurd (subst (λ (b : Bool). T b) h tt)

pub deeper : (x : List ℕ) (xs : Key) (new : Option Kid) → is_root xs ≡ false → IsNamed (x ∷ xs) new → IsNamed xs new
deeper x [] new r h = no_root r
deeper x (y ∷ ys) None r h = tt
deeper x (y ∷ ys) (Some k) r h = (h.0 ∙ last-deeper x y ys, h.1)

-- the directory above is in the object of the first name
pub stands : (entry : Entry) (ks : Kids) (rows : Rows) (x : List ℕ) (xs key : Key) → rows_of entry ks ≡ rows → IsTrue (is_sorted name_cmp ks) → key ≡ x ∷ xs → is_root xs ≡ false → IsSome (find place_cmp (parent_key key) rows)
    → IsSome (find place_cmp (parent_key xs) (rows_found (find name_cmp x ks)))
stands entry ks rows x [] key view s is r h = no_root r
stands entry ks rows x (y ∷ ys) key view s is r h =
    subst (λ (o : Option Entry). IsSome o) (find-flatten x (parent_key (y ∷ ys)) ks (holds _ s))
    (subst (λ (r : Rows). IsSome (find place_cmp (x ∷ parent_key (y ∷ ys)) r)) (sym view) (subst (λ (k : Key). IsSome (find place_cmp (parent_key k) rows)) is h))

pub is_nil : (names : Key) → true ≡ (length names == 0) → key_of names ≡ []
is_nil [] h = refl
is_nil (n ∷ ns) h = absurd (grind (arith, nat_tests))

pub not_nil : (names : Key) → false ≡ (length names == 0) → is_root (key_of names) ≡ false
not_nil [] h = absurd (grind (arith, nat_tests))
not_nil (n ∷ ns) h = refl

-- an object with another entry
pub entry_at : (entry old : Entry) (ks : Kids) → AreKids ks → IsEntryAt entry (rows_of old ks) (rows_of entry ks)
entry_at entry old ks a = record { whole = subtree entry ks a; found = there }
  where
    there : (w : Key) → find place_cmp w (rows_of entry ks) ≡ cond (is_same_key w []) (Some entry) (find place_cmp w (rows_of old ks))
    there [] = refl
    there (n ∷ ns) = refl
