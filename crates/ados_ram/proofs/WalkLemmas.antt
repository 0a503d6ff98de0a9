-- A walk down the tree collects the rows below a place.
use Rattle.std.proofs.Common.{◌≡◌, ℕ, ◌<◌, ◌≤◌, ◌==◌, suc, zero, Bool, true, false, T, cond, not, ◌&&◌, ◌||◌, ◌+◌, List, [], ◌∷◌, ◌++◌, Option, Some, None, IsSome, refl, sym, ap, ◌∙◌, subst, append_assoc, length, length-append, arith, slice_index_or, drop, drop-cons, add-one, nat_eq}
use Rattle.std.proofs.lemmas.Bool.Decides.{nat_tests}
use Rattle.std.specs.FinMap.{is_sorted, find}
use Rattle.std.specs.FinMap.Entries.{below_all}
use Rattle.ados_ram.specs.declared.entries.Entry.{Entry}
use Rattle.ados_ram.specs.Place.{Key, place_cmp, is_child, key_suffix, is_one_name, has_names}
use Rattle.ados_ram.specs.Files.{Rows}
use Rattle.ados_ram.specs.FileOperations.{has_descendants, child_names}
use Rattle.ados_ram.specs.Entry.{is_directory}
use Rattle.ados_ram.specs.Contents.{is_within, children, directory_files}
use Rattle.ados_ram.specs.Rows.{inner_rows}
use Rattle.ados_ram.specs.Tree.{Kid, Kids, IsSubtree, AllSubtrees, rows_under_name, flatten, rows_of, rows_by_root, subtree_rows, with_way}
use Rattle.ados_ram.proofs.RowsLemmas.{first, none_above}
use Rattle.ados_ram.proofs.RenameLemmas.{after-exact}
use Rattle.ados_ram.proofs.TreeLemmas.{holds}

-- what is within a directory, by the path from there
abbrev way_within : Bool → Option Key → Bool
way_within true way = has_names way
way_within false way = is_one_name way

within-way : (all : Bool) (directory place : Key) → is_within all directory place ≡ way_within all (key_suffix directory place)
within-way true directory place = refl
within-way false directory place = refl

none-within : (all : Bool) → way_within all None ≡ false
none-within true = refl
none-within false = refl

-- the rows within a directory are those within the rows from there
pub rows-below : (all : Bool) (key : Key) (es : Rows) → inner_rows all key es ≡ rows_by_root key (inner_rows all [] (subtree_rows key es))
rows-below all key [] = refl
rows-below all key (e ∷ es) =
    let next = rows-below all key es in
    ap (λ b. cond b (e ∷ inner_rows all key es) (inner_rows all key es)) (within-way all key e.0)
    ∙ elim (key_suffix key e.0) as (λ o. key_suffix key e.0 ≡ o → cond (way_within all o) (e ∷ inner_rows all key es) (inner_rows all key es) ≡ rows_by_root key (inner_rows all [] (with_way o e.1 (subtree_rows key es)))) [
      | None ↦ λ p. ap (λ b. cond b (e ∷ inner_rows all key es) (inner_rows all key es)) (none-within all) ∙ next
      | Some w ↦ λ p.
          elim (way_within all (Some w)) as (λ b. cond b (e ∷ inner_rows all key es) (inner_rows all key es) ≡ rows_by_root key (cond b ((w, e.1) ∷ inner_rows all [] (subtree_rows key es)) (inner_rows all [] (subtree_rows key es)))) [
            | true ↦ ap (λ (q : Key). (q, e.1) ∷ inner_rows all key es) (after-exact key e.0 w p) ∙ ap (λ (r : Rows). (key ++ w, e.1) ∷ r) next
            | false ↦ next
          ]
          ∙ ap (λ b. rows_by_root key (cond b ((w, e.1) ∷ inner_rows all [] (subtree_rows key es)) (inner_rows all [] (subtree_rows key es)))) (sym (within-way all [] w))
    ] refl

pub any-below : (key : Key) (es : Rows) → has_descendants key es ≡ has_descendants [] (subtree_rows key es)
any-below key [] = refl
any-below key (e ∷ es) =
    let next = any-below key es in
    elim (key_suffix key e.0) as (λ o. has_names o || has_descendants key es ≡ has_descendants [] (with_way o e.1 (subtree_rows key es))) [
      | None ↦ next
      | Some w ↦ ap (λ b. has_names (Some w) || b) next
    ]

-- an object's own row comes first
pub record IsTop (e : Entry) (rows : Rows) : Type 0 where
  pub rest : Rows
  pub is : rows ≡ ([], e) ∷ rest
  pub low : T (below_all place_cmp [] rest)

pub is_top : (e : Entry) (rows : Rows) → find place_cmp [] rows ≡ Some e → T (is_sorted place_cmp rows) → IsTop e rows
is_top e [] f s = cc
is_top e (([], v) ∷ es) f s = record { rest = es; is = ap (λ (o : Option Entry). elim o as (λ _. Rows) [ None ↦ ([], v) ∷ es | Some x ↦ ([], x) ∷ es ]) f; low = first _ _ s }
is_top e ((n ∷ ns, v) ∷ es) f s = let none : find place_cmp [] es ≡ None = none_above [] (n ∷ ns) es refl (first _ _ s) in cc

two : (n m : List ℕ) (ns : Key) → nat_eq (length (n ∷ m ∷ ns)) 1 ≡ false
two n m ns = grind (arith, nat_tests)

deep : (n : List ℕ) (es rest : Rows) → T (below_all place_cmp [] es) → inner_rows true [] (rows_under_name n es ++ rest) ≡ rows_under_name n (inner_rows true [] es) ++ inner_rows true [] rest
deep n [] rest h = refl
deep n (([], v) ∷ es) rest h = absurd h
deep n ((m ∷ ms, v) ∷ es) rest h = ap (λ (r : Rows). (n ∷ m ∷ ms, v) ∷ r) (deep n es rest h)

shallow : (n : List ℕ) (es rest : Rows) → T (below_all place_cmp [] es) → inner_rows false [] (rows_under_name n es ++ rest) ≡ inner_rows false [] rest
shallow n [] rest h = refl
shallow n (([], v) ∷ es) rest h = absurd h
shallow n ((m ∷ ms, v) ∷ es) rest h =
    ap (λ b. cond b ((n ∷ m ∷ ms, v) ∷ inner_rows false [] (rows_under_name n es ++ rest)) (inner_rows false [] (rows_under_name n es ++ rest))) (two n m ms) ∙ shallow n es rest h

to-append : (p : Key) (a b : Rows) → rows_by_root p (a ++ b) ≡ rows_by_root p a ++ rows_by_root p b
to-append p [] b = refl
to-append p (e ∷ a) b = ap (λ (r : Rows). (p ++ e.0, e.1) ∷ r) (to-append p a b)

to-under : (p : Key) (n : List ℕ) (es : Rows) → rows_by_root p (rows_under_name n es) ≡ rows_by_root (p ++ n ∷ []) es
to-under p n [] = refl
to-under p n (e ∷ es) = ap (λ (k : Key). (k, e.1) ∷ rows_by_root p (rows_under_name n es)) (sym (append_assoc p (n ∷ []) e.0)) ∙ ap (λ (r : Rows). ((p ++ n ∷ []) ++ e.0, e.1) ∷ r) (to-under p n es)

-- all rows below an object, or none
abbrev pub rows_in : Bool → Key → Rows → Rows
rows_in true place rows = rows_by_root place (inner_rows true [] rows)
rows_in false place rows = []

-- the rows within a directory: each object in it, and what is below that
pub kid-within : (all : Bool) (p : Key) (k : Kid) (e : Entry) (ks : Kids) → find place_cmp [] k.1 ≡ Some e → IsSubtree k.1
    → rows_by_root p (inner_rows all [] (flatten (k ∷ ks))) ≡ (p ++ k.0 ∷ [], e) ∷ (rows_in all (p ++ k.0 ∷ []) k.1 ++ rows_by_root p (inner_rows all [] (flatten ks)))
kid-within true p k e ks f s =
    let t : IsTop e k.1 = is_top e k.1 f (holds _ s.sorted) in
    ap (λ (r : Rows). rows_by_root p (inner_rows true [] (rows_under_name k.0 r ++ flatten ks))) t.is
    ∙ ap (λ (r : Rows). (p ++ k.0 ∷ [], e) ∷ rows_by_root p r) (deep k.0 t.rest (flatten ks) t.low)
    ∙ ap (λ (r : Rows). (p ++ k.0 ∷ [], e) ∷ r) (to-append p (rows_under_name k.0 (inner_rows true [] t.rest)) (inner_rows true [] (flatten ks)))
    ∙ ap (λ (r : Rows). (p ++ k.0 ∷ [], e) ∷ (r ++ rows_by_root p (inner_rows true [] (flatten ks)))) (to-under p k.0 (inner_rows true [] t.rest))
    ∙ ap (λ (r : Rows). (p ++ k.0 ∷ [], e) ∷ (rows_by_root (p ++ k.0 ∷ []) (inner_rows true [] r) ++ rows_by_root p (inner_rows true [] (flatten ks)))) (sym t.is)
kid-within false p k e ks f s =
    let t : IsTop e k.1 = is_top e k.1 f (holds _ s.sorted) in
    ap (λ (r : Rows). rows_by_root p (inner_rows false [] (rows_under_name k.0 r ++ flatten ks))) t.is
    ∙ ap (λ (r : Rows). (p ++ k.0 ∷ [], e) ∷ rows_by_root p r) (shallow k.0 t.rest (flatten ks) t.low)

-- there is something in a directory that has objects
pub any-in : (entry : Entry) (ks : Kids) → AllSubtrees ks → has_descendants [] (rows_of entry ks) ≡ not (length ks == 0)
any-in entry [] a = refl
any-in entry (k ∷ ks) a =
    let some : (length (k ∷ ks) == 0) ≡ false = grind (arith, nat_tests) in
    not_empty k.0 k.1 (flatten ks) a.0.top ∙ ap not (sym some)
  where
    not_empty : (n : List ℕ) (r rest : Rows) → IsSome (find place_cmp [] r) → has_descendants [] (rows_under_name n r ++ rest) ≡ true
    not_empty n [] rest h = cc
    not_empty n (e ∷ r) rest h = refl

-- an object in a directory has fewer rows
pub fewer : (ks : Kids) (i : ℕ) (d : Kid) → i < length ks → length (slice_index_or ks i d).1 ≤ length (flatten ks)
fewer [] i d h = absurd (omega arith)
fewer (k ∷ ks) zero d h = omega (arith, length-append (rows_under_name k.0 k.1) (flatten ks), length-under k.0 k.1)
  where
    length-under : (n : List ℕ) (es : Rows) → length (rows_under_name n es) ≡ length es
    length-under n [] = refl
    length-under n (e ∷ es) = omega (arith, length-under n es)
fewer (k ∷ ks) (suc i) d h = omega (arith, length-append (rows_under_name k.0 k.1) (flatten ks), fewer ks i d (omega arith))

-- so a walk goes down to fewer
pub fewer-in : {kids : Kids} (ks : Kids) (i : ℕ) (kid : Kid) (rows : Rows) → ks ≡ kids → i < length ks → kid ≡ slice_index_or ks i kid → suc (length (flatten kids)) ≡ length rows
    → length kid.1 < length rows
fewer-in ks i kid rows own within is all =
    let at : length kid.1 ≡ length (slice_index_or ks i kid).1 = ap (λ (k : Kid). length k.1) is in
    let same = ap (λ (x : Kids). length (flatten x)) own in
    omega (arith, fewer ks i kid within)

pub subtree-at : (ks : Kids) (i : ℕ) (d : Kid) → AllSubtrees ks → i < length ks → IsSubtree (slice_index_or ks i d).1
subtree-at [] i d a h = absurd (omega arith)
subtree-at (k ∷ ks) zero d a h = a.0
subtree-at (k ∷ ks) (suc i) d a h = subtree-at ks i d a.1 (omega arith)

-- a directory's list is the same by the rows within it
pub names-within : (key : Key) (es : Rows) → child_names key (inner_rows false key es) ≡ child_names key es
names-within key [] = refl
names-within key (e ∷ es) =
    elim (is_child key e.0) as (λ b. is_child key e.0 ≡ b → child_names key (cond b (e ∷ inner_rows false key es) (inner_rows false key es)) ≡ cond b (e.1.name ∷ child_names key es) (child_names key es)) [
      | true ↦ λ t. ap (λ b. cond b (e.1.name ∷ child_names key (inner_rows false key es)) (child_names key (inner_rows false key es))) t ∙ ap (λ (r : Key). e.1.name ∷ r) (names-within key es)
      | false ↦ λ t. names-within key es
    ] refl

pub children-within : (key : Key) (es : Rows) → children key (inner_rows false key es) ≡ children key es
children-within key [] = refl
children-within key (e ∷ es) =
    elim (is_child key e.0) as (λ b. is_child key e.0 ≡ b → children key (cond b (e ∷ inner_rows false key es) (inner_rows false key es)) ≡ cond b (e.0 ∷ children key es) (children key es)) [
      | true ↦ λ t. ap (λ b. cond b (e.0 ∷ children key (inner_rows false key es)) (children key (inner_rows false key es))) t ∙ ap (λ (r : List Key). e.0 ∷ r) (children-within key es)
      | false ↦ λ t. children-within key es
    ] refl

pub files-within : (all : Bool) (key : Key) (es : Rows) → directory_files all key (inner_rows all key es) ≡ directory_files all key es
files-within all key [] = refl
files-within all key (e ∷ es) =
    let rest = inner_rows all key es in
    elim (is_within all key e.0) as (λ b. is_within all key e.0 ≡ b → directory_files all key (cond b (e ∷ rest) rest) ≡ cond (b && not (is_directory e.1)) (e.0 ∷ directory_files all key es) (directory_files all key es)) [
      | true ↦ λ t. ap (λ b. cond (b && not (is_directory e.1)) (e.0 ∷ directory_files all key rest) (directory_files all key rest)) t ∙ ap (λ (r : List Key). cond (not (is_directory e.1)) (e.0 ∷ r) r) (files-within all key es)
      | false ↦ λ t. files-within all key es
    ] refl

-- one more object of a directory
pub gathered : (all : Bool) (key at : Key) (ks : Kids) (i : ℕ) (k : Kid) (e : Entry) (before pushed after : Rows) → i < length ks → k ≡ slice_index_or ks i k → AllSubtrees ks → find place_cmp [] k.1 ≡ Some e
    → at ≡ key ++ k.0 ∷ [] → pushed ≡ before ++ (at, e) ∷ [] → after ≡ pushed ++ rows_in all at k.1
    → after ++ rows_by_root key (inner_rows all [] (flatten (drop (i + 1) ks))) ≡ before ++ rows_by_root key (inner_rows all [] (flatten (drop i ks)))
gathered all key at ks i k e before pushed after h is a f place push more =
    let rest = rows_by_root key (inner_rows all [] (flatten (drop (i + 1) ks))) in
    let d : drop i ks ≡ k ∷ drop (i + 1) ks = rw add-one (drop-cons ks i k h) ∙ ap (λ (x : Kid). x ∷ drop (i + 1) ks) (sym is) in
    let s : IsSubtree k.1 = subst (λ (x : Kid). IsSubtree x.1) (sym is) (subtree-at ks i k a h) in
    let this : Rows = (at, e) ∷ [] in
    ap (λ (r : Rows). r ++ rest) (more ∙ ap (λ (r : Rows). r ++ rows_in all at k.1) push)
    ∙ append_assoc (before ++ this) (rows_in all at k.1) rest ∙ append_assoc before this (rows_in all at k.1 ++ rest)
    ∙ ap (λ (p : Key). before ++ (p, e) ∷ (rows_in all p k.1 ++ rest)) place
    ∙ ap (λ (r : Rows). before ++ r) (sym (kid-within all key k e (drop (i + 1) ks) f s))
    ∙ ap (λ (x : Kids). before ++ rows_by_root key (inner_rows all [] (flatten x))) (sym d)
