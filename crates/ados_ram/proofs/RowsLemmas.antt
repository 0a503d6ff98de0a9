-- Entries in order, and the map that they make.
use Rattle.std.proofs.Common.{◌≡◌, ℕ, List, [], ◌∷◌, sym, ap, ◌∙◌, subst, IsTrue, Bool, true, false, T, cond, not, ◌&&◌, Option, Some, None, is_some, ◌+◌, ◌-◌, ◌≤◌, length, refl, unwrap_or, arith}
use Rattle.std.specs.declared.cmp.Ordering.{Ordering}
use Rattle.std.specs.declared.cmp.Ordering.TheVariants.{Less, Equal, Greater}
use Rattle.std.specs.Ordering.{eq_by_cmp, is_eq, is_lt}
use Rattle.std.specs.Cmp.{alike_right, eq_by_cmp_equiv}
use Rattle.std.specs.FinMap as map
use Rattle.std.specs.FinMap.{is_sorted, find, put, get-from_sorted, entries-from_sorted, entries-insert, same_entries_map, len-entries, entries_sorted, same_map, get-remove}
use Rattle.std.specs.FinMap.Entries.{below_all, is_sorted-put, is_sorted-where_key, find-where_key, where_key, by_order}
use Rattle.ados_ram.specs.declared.entries.Entry.{Entry}
use Rattle.ados_ram.specs.declared.entries.Bits.{Bits}
use Rattle.ados_ram.specs.Place.{place_cmp, place_cmp_total, place_cmp_exact, is_same_key}
use Rattle.ados_ram.specs.Entry.{file_entry_with_bits, size_of}
use Rattle.ados_ram.specs.Files.{Files, Rows, entry_bytes, total_of}
use Rattle.ados_ram.specs.FileOperations.{moved_rows, rename_of}
use Rattle.ados_ram.specs.Rows.{other_rows}

pub second : (a b : Bool) → T (a && b) → T b
second true b p = p
second false b p = absurd p

pub first : (a b : Bool) → T (a && b) → T a
first true b p = tt
first false b p = p

pub both : (a b : Bool) → T a → T b → T (a && b)
both true b p q = q
both false b p q = p

pub is_true : (b : Bool) → T b → IsTrue b
is_true true h = refl
is_true false h = absurd h

pub tied : (o : Ordering) → T (is_lt o) → o ≡ Less
tied Less p = refl
tied Equal p = absurd p
tied Greater p = absurd p

-- a place before all rows is the place of none
pub above_all : (k q : List (List ℕ)) (es : Rows) → place_cmp k q ≡ Less → T (below_all place_cmp q es) → other_rows k es ≡ es
above_all k q [] p h = refl
above_all k q (e ∷ es) p h =
    ap (λ r. cond (is_eq r) (other_rows k es) (e ∷ other_rows k es)) (place_cmp_total.trans k q e.0 p (tied _ (first _ _ h))) ∙ ap (λ (r : Rows). e ∷ r) (above_all k q es p (second _ _ h))

pub none_above : (k q : List (List ℕ)) (es : Rows) → place_cmp k q ≡ Less → T (below_all place_cmp q es) → find place_cmp k es ≡ None
none_above k q [] p h = refl
none_above k q (e ∷ es) p h =
    ap (λ r. cond (is_eq r) (Some e.1) (find place_cmp k es)) (place_cmp_total.trans k q e.0 p (tied _ (first _ _ h))) ∙ none_above k q es p (second _ _ h)

pub tied_all : (k q : List (List ℕ)) (es : Rows) → place_cmp k q ≡ Equal → T (below_all place_cmp q es) → other_rows k es ≡ es
tied_all k q [] p h = refl
tied_all k q (e ∷ es) p h =
    ap (λ r. cond (is_eq r) (other_rows k es) (e ∷ other_rows k es)) (place_cmp_total.congr k q e.0 p ∙ tied _ (first _ _ h)) ∙ ap (λ (r : Rows). e ∷ r) (tied_all k q es p (second _ _ h))

pub holds : (b : Bool) → IsTrue b → T b
holds b h = subst T (sym h) tt

-- the rows in order that make a map
pub record AreRowsOf (es : Rows) (m : Files) : Type 0 where
  pub is : map.from_sorted es ≡ m
  pub sorted : IsTrue (is_sorted place_cmp es)

-- a lookup in the map is one in the rows
pub get_rows : {m : Files} (es : Rows) (q : List (List ℕ)) → map.from_sorted es ≡ m → IsTrue (is_sorted place_cmp es) → map.get m q ≡ find place_cmp q es
get_rows es q e sorted = ap (λ m. map.get m q) (sym e) ∙ get-from_sorted place_cmp es q (holds _ sorted)

-- the rows with one put at its place are the map with one inserted
pub put_rows : {m : Files} (es : Rows) (k : List (List ℕ)) (v : _) → map.from_sorted es ≡ m → IsTrue (is_sorted place_cmp es) → map.from_sorted (put place_cmp k v es) ≡ map.insert m k v
put_rows es k v e sorted = same_entries_map _ _
    (entries-from_sorted place_cmp _ (is_sorted-put place_cmp place_cmp_total k v es (holds _ sorted))
    ∙ ap (put place_cmp k v) (sym (ap map.entries (sym e) ∙ entries-from_sorted place_cmp es (holds _ sorted)))
    ∙ sym (entries-insert place_cmp_total _ k v))

past : (a b n m : ℕ) → n ≡ b + m → a + n ≡ b + (a + m)
past a b n m e = omega arith

-- a row put at its place adds its size to that of the others
pub total-put : (k : List (List ℕ)) (v : Entry) (es : Rows) → T (is_sorted place_cmp es) → total_of (put place_cmp k v es) ≡ size_of v + total_of (other_rows k es)
total-put k v [] h = refl
total-put k v (e ∷ es) h =
    elim (place_cmp k e.0) as (λ r. place_cmp k e.0 ≡ r → total_of (by_order r ((k, v) ∷ e ∷ es) ((e.0, v) ∷ es) (e ∷ put place_cmp k v es)) ≡ size_of v + total_of (cond (is_eq r) (other_rows k es) (e ∷ other_rows k es))) [
      | Less ↦ λ p. ap (λ (xs : Rows). size_of v + (size_of e.1 + total_of xs)) (sym (above_all k e.0 es p (first _ _ h)))
      | Equal ↦ λ p. ap (λ (xs : Rows). size_of v + total_of xs) (sym (tied_all k e.0 es p (first _ _ h)))
      | Greater ↦ λ p. past (size_of e.1) (size_of v) _ _ (total-put k v es (second _ _ h))
    ] refl

pub length-put_without : (k : List (List ℕ)) (v : Entry) (es : Rows) → T (is_sorted place_cmp es) → length (put place_cmp k v es) ≡ 1 + length (other_rows k es)
length-put_without k v [] h = omega arith
length-put_without k v (e ∷ es) h =
    elim (place_cmp k e.0) as (λ r. place_cmp k e.0 ≡ r → length (by_order r ((k, v) ∷ e ∷ es) ((e.0, v) ∷ es) (e ∷ put place_cmp k v es)) ≡ 1 + length (cond (is_eq r) (other_rows k es) (e ∷ other_rows k es))) [
      | Less ↦ λ p. rw (above_all k e.0 es p (first _ _ h)) (omega arith)
      | Equal ↦ λ p. rw (tied_all k e.0 es p (first _ _ h)) (omega arith)
      | Greater ↦ λ p. omega (arith, length-put_without k v es (second _ _ h))
    ] refl

pub sorted_put : (k : List (List ℕ)) (v : Entry) (es : Rows) → IsTrue (is_sorted place_cmp es) → IsTrue (is_sorted place_cmp (put place_cmp k v es))
sorted_put k v es h = is_true _ (is_sorted-put place_cmp place_cmp_total k v es (holds _ h))

-- a file that is written has the size of the written bytes
pub size-written : (bits : Bits) (o : Option Entry) (name bytes : List ℕ) → size_of (file_entry_with_bits bits o name bytes) ≡ length bytes
size-written bits None name bytes = refl
size-written bits (Some e) name bytes = refl

as_filter : (k : List (List ℕ)) (es : Rows) → other_rows k es ≡ where_key place_cmp (λ x. not (eq_by_cmp place_cmp k x)) es
as_filter k [] = refl
as_filter k (e ∷ es) =
    elim (eq_by_cmp place_cmp k e.0) as (λ b. cond b (other_rows k es) (e ∷ other_rows k es) ≡ cond (not b) (e ∷ where_key place_cmp (λ x. not (eq_by_cmp place_cmp k x)) es) (where_key place_cmp (λ x. not (eq_by_cmp place_cmp k x)) es)) [
      | true ↦ as_filter k es
      | false ↦ ap (λ (r : Rows). e ∷ r) (as_filter k es)
    ]

pub sorted_without : (k : List (List ℕ)) (es : Rows) → IsTrue (is_sorted place_cmp es) → IsTrue (is_sorted place_cmp (other_rows k es))
sorted_without k es h = is_true _ (subst (λ (r : Rows). T (is_sorted place_cmp r)) (sym (as_filter k es)) (is_sorted-where_key place_cmp _ es (holds _ h)))

pub entries_rows : {m : Files} (es : Rows) → AreRowsOf es m → map.entries m ≡ es
entries_rows es r = ap map.entries (sym r.is) ∙ entries-from_sorted place_cmp es (holds _ r.sorted)

-- rows put in order one by one
abbrev pub sorted_of : Rows → Rows
sorted_of [] = []
sorted_of (e ∷ es) = put place_cmp e.0 e.1 (sorted_of es)

pub sorted_of_rows : (es : Rows) → AreRowsOf (sorted_of es) (map.from_entries es)
sorted_of_rows [] = record {
  is = map.empty_of_len _ (len-entries _ ∙ ap length (entries-from_sorted place_cmp [] tt));
  sorted = refl;
}
sorted_of_rows (e ∷ es) =
    let r = sorted_of_rows es in
    record {
      is = put_rows (sorted_of es) e.0 e.1 r.is r.sorted;
      sorted = sorted_put e.0 e.1 (sorted_of es) r.sorted;
    }

-- the entry at a place and the others are all entries
pub total-rest : (k : List (List ℕ)) (es : Rows) → T (is_sorted place_cmp es) → length (entry_bytes (find place_cmp k es)) + total_of (other_rows k es) ≡ total_of es
total-rest k [] h = refl
total-rest k (e ∷ es) h =
    elim (place_cmp k e.0) as (λ r. place_cmp k e.0 ≡ r → length (entry_bytes (cond (is_eq r) (Some e.1) (find place_cmp k es))) + total_of (cond (is_eq r) (other_rows k es) (e ∷ other_rows k es)) ≡ size_of e.1 + total_of es) [
      | Less ↦ λ p. omega (arith, total-rest k es (second _ _ h))
      | Equal ↦ λ p. ap (λ (xs : Rows). size_of e.1 + total_of xs) (tied_all k e.0 es p (first _ _ h))
      | Greater ↦ λ p. omega (arith, total-rest k es (second _ _ h))
    ] refl

abbrev pub one_if : Bool → ℕ
one_if true = 1
one_if false = 0

pub length-rest : (k : List (List ℕ)) (es : Rows) → T (is_sorted place_cmp es) → one_if (is_some (find place_cmp k es)) + length (other_rows k es) ≡ length es
length-rest k [] h = omega arith
length-rest k (e ∷ es) h =
    elim (place_cmp k e.0) as (λ r. place_cmp k e.0 ≡ r → one_if (is_some (cond (is_eq r) (Some e.1) (find place_cmp k es))) + length (cond (is_eq r) (other_rows k es) (e ∷ other_rows k es)) ≡ length (e ∷ es)) [
      | Less ↦ λ p. omega (arith, length-rest k es (second _ _ h))
      | Equal ↦ λ p. let e = ap length (tied_all k e.0 es p (first _ _ h)) in omega arith
      | Greater ↦ λ p. omega (arith, length-rest k es (second _ _ h))
    ] refl

-- the rows of a map
pub own_rows : (m : Files) → AreRowsOf (map.entries m) m
own_rows m = record {
  is = same_entries_map _ _ (entries-from_sorted place_cmp (map.entries m) (entries_sorted m));
  sorted = is_true _ (entries_sorted m);
}

turned : {A : Type 0} (b : Bool) (x y : A) → cond (not b) x y ≡ cond b y x
turned true x y = refl
turned false x y = refl

-- the rows without a place are the map with it removed
pub without_rows : {m : Files} (es : Rows) (k : List (List ℕ)) → map.from_sorted es ≡ m → IsTrue (is_sorted place_cmp es) → map.from_sorted (other_rows k es) ≡ map.remove m k
without_rows es k e sorted = same_map place_cmp_total place_cmp_exact _ _ (λ q.
    get-from_sorted place_cmp _ q (holds _ (sorted_without k es sorted))
    ∙ ap (find place_cmp q) (as_filter k es)
    ∙ find-where_key place_cmp (λ x. not (eq_by_cmp place_cmp k x)) q (λ x t. ap (λ r. not (is_eq r)) (sym (alike_right place_cmp_total q x k t))) es
    ∙ turned (eq_by_cmp place_cmp k q) _ _
    ∙ ap (λ b. cond b None (find place_cmp q es)) ((eq_by_cmp_equiv place_cmp_total).symm k q)
    ∙ ap (cond (eq_by_cmp place_cmp q k) None) (sym (get_rows es q e sorted))
    ∙ sym (get-remove place_cmp_total _ k q))

-- the rows without a place
pub deleted_rows : {m : Files} {es new : Rows} (key : List (List ℕ)) → AreRowsOf es m → new ≡ other_rows key es → AreRowsOf new (map.remove m key)
deleted_rows {m} {es} {new} key r e = record {
  is = ap map.from_sorted e ∙ without_rows es key r.is r.sorted;
  sorted = rw e (sorted_without key es r.sorted);
}

-- the size and number of the rows of a map with an entry inserted
pub total-insert : (m : Files) (key : List (List ℕ)) (new : Entry) → total_of (map.entries (map.insert m key new)) ≡ size_of new + total_of (other_rows key (map.entries m))
total-insert m key new = ap total_of (entries-insert place_cmp_total m key new) ∙ total-put key new (map.entries m) (entries_sorted m)

pub len-insert : (m : Files) (key : List (List ℕ)) (new : Entry) → map.len (map.insert m key new) ≡ 1 + length (other_rows key (map.entries m))
len-insert m key new = len-entries _ ∙ ap length (entries-insert place_cmp_total m key new) ∙ length-put_without key new (map.entries m) (entries_sorted m)

-- the same, by the old entry
pub total-beside : {m : Files} (es : Rows) (key : List (List ℕ)) (new : Entry) → AreRowsOf es m → total_of (map.entries (map.insert m key new)) ≡ size_of new + (total_of es - length (entry_bytes (map.get m key)))
total-beside {m} es key new r =
    let all = entries_rows es r in
    let rest : length (entry_bytes (find place_cmp key es)) + total_of (other_rows key es) ≡ total_of es = total-rest key es (holds _ r.sorted) in
    let found : length (entry_bytes (map.get m key)) ≡ length (entry_bytes (find place_cmp key es)) = ap (λ (o : Option Entry). length (entry_bytes o)) (get_rows es key r.is r.sorted) in
    let sum : total_of (map.entries (map.insert m key new)) ≡ size_of new + total_of (other_rows key es) = total-insert m key new ∙ ap (λ (xs : Rows). size_of new + total_of (other_rows key xs)) all in
    omega arith

pub bytes-within : {m : Files} (es : Rows) (key : List (List ℕ)) → AreRowsOf es m → length (entry_bytes (map.get m key)) ≤ total_of es
bytes-within {m} es key r =
    let rest : length (entry_bytes (find place_cmp key es)) + total_of (other_rows key es) ≡ total_of es = total-rest key es (holds _ r.sorted) in
    let found : length (entry_bytes (map.get m key)) ≡ length (entry_bytes (find place_cmp key es)) = ap (λ (o : Option Entry). length (entry_bytes o)) (get_rows es key r.is r.sorted) in
    omega arith

pub len-beside : {m : Files} (es : Rows) (key : List (List ℕ)) (new : Entry) → AreRowsOf es m → one_if (is_some (map.get m key)) + map.len (map.insert m key new) ≡ 1 + length es
len-beside {m} es key new r =
    let rest : one_if (is_some (find place_cmp key es)) + length (other_rows key es) ≡ length es = length-rest key es (holds _ r.sorted) in
    let found : one_if (is_some (map.get m key)) ≡ one_if (is_some (find place_cmp key es)) = ap (λ (o : Option Entry). one_if (is_some o)) (get_rows es key r.is r.sorted) in
    let count : map.len (map.insert m key new) ≡ 1 + length (other_rows key es) = len-insert m key new ∙ ap (λ (xs : Rows). 1 + length (other_rows key xs)) (entries_rows es r) in
    omega arith

pub len-beside_found : {m : Files} {found : Option Entry} (es : Rows) (key : List (List ℕ)) (new : Entry) → AreRowsOf es m → map.get m key ≡ found
    → one_if (is_some found) + map.len (map.insert m key new) ≡ 1 + length es
len-beside_found es key new r e = rw e at (len-beside es key new r)

-- the rows after a rename
pub renamed_rows : {m : Files} {es new : Rows} (from to : List (List ℕ)) (name : List ℕ) → AreRowsOf es m → new ≡ sorted_of (moved_rows from to name es) → AreRowsOf new (rename_of m from to name)
renamed_rows {m} {es} {new} from to name r e =
    let s = sorted_of_rows (moved_rows from to name es) in
    record {
      is = ap map.from_sorted e ∙ s.is ∙ ap (λ (xs : Rows). map.from_entries (moved_rows from to name xs)) (sym (entries_rows es r));
      sorted = rw e s.sorted;
    }

some_same : (a b : Entry) → Some a ≡ Some b → a ≡ b
some_same a b e = ap (λ (o : Option Entry). unwrap_or o a) e

-- what is removed takes its size with it
pub total-without : (k : List (List ℕ)) (es : Rows) → total_of (other_rows k es) ≤ total_of es
total-without k [] = omega arith
total-without k (e ∷ es) =
    elim (is_same_key k e.0) as (λ b. total_of (cond b (other_rows k es) (e ∷ other_rows k es)) ≤ size_of e.1 + total_of es) [
      | true ↦ omega (arith, total-without k es)
      | false ↦ omega (arith, total-without k es)
    ]

pub length-without : (k : List (List ℕ)) (es : Rows) → length (other_rows k es) ≤ length es
length-without k [] = omega arith
length-without k (e ∷ es) =
    elim (is_same_key k e.0) as (λ b. length (cond b (other_rows k es) (e ∷ other_rows k es)) ≤ length (e ∷ es)) [
      | true ↦ omega (arith, length-without k es)
      | false ↦ omega (arith, length-without k es)
    ]

pub total-found : (k : List (List ℕ)) (v : Entry) (es : Rows) → find place_cmp k es ≡ Some v → size_of v + total_of (other_rows k es) ≤ total_of es
total-found k v [] h = cc
total-found k v (e ∷ es) h =
    elim (is_same_key k e.0) as (λ b. cond b (Some e.1) (find place_cmp k es) ≡ Some v → size_of v + total_of (cond b (other_rows k es) (e ∷ other_rows k es)) ≤ size_of e.1 + total_of es) [
      | true ↦ λ g. let same : size_of e.1 ≡ size_of v = ap size_of (some_same _ _ g) in omega (arith, total-without k es)
      | false ↦ λ g. omega (arith, total-found k v es g)
    ] h

pub length-found : (k : List (List ℕ)) (v : Entry) (es : Rows) → find place_cmp k es ≡ Some v → 1 + length (other_rows k es) ≤ length es
length-found k v [] h = cc
length-found k v (e ∷ es) h =
    elim (is_same_key k e.0) as (λ b. cond b (Some e.1) (find place_cmp k es) ≡ Some v → 1 + length (cond b (other_rows k es) (e ∷ other_rows k es)) ≤ length (e ∷ es)) [
      | true ↦ λ g. omega (arith, length-without k es)
      | false ↦ λ g. omega (arith, length-found k v es g)
    ] h

-- the size and number of rows put in order are at most those of the rows
pub total-sorted_of : (es : Rows) → total_of (sorted_of es) ≤ total_of es
total-sorted_of [] = omega arith
total-sorted_of (e ∷ es) =
    let r = sorted_of_rows es in
    omega (arith, total-put e.0 e.1 (sorted_of es) (holds _ r.sorted), total-without e.0 (sorted_of es), total-sorted_of es)

pub length-sorted_of : (es : Rows) → length (sorted_of es) ≤ length es
length-sorted_of [] = omega arith
length-sorted_of (e ∷ es) =
    let r = sorted_of_rows es in
    omega (arith, length-put_without e.0 e.1 (sorted_of es) (holds _ r.sorted), length-without e.0 (sorted_of es), length-sorted_of es)
