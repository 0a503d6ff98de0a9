-- A name is looked up, put and removed in one block of a directory.
use Rattle.std.proofs.Common.{◌≡◌, ℕ, zero, suc, ◌+◌, ◌-◌, ◌<◌, ◌≤◌, true, false, T, cond, ◌==◌, List, [], ◌∷◌, ◌++◌, length, take, drop, Option, Some, None, Bor, IsTrue, slice_index_or, slice_get, refl, sym, ap, ◌∙◌, subst, append_assoc, length-append, arith}
use Rattle.std.proofs.lemmas.List.{append-nil, take-append-drop}
use Rattle.std.proofs.lemmas.Bool.Decides.{nat_tests}
use Rattle.std.specs.declared.cmp.Ordering.{Ordering}
use Rattle.std.specs.declared.cmp.Ordering.TheVariants.{Less, Equal, Greater}
use Rattle.std.specs.Ordering.{is_eq, is_lt, is_le, ordering_reverse}
use Rattle.std.specs.List.{AllWithin}
use Rattle.std.specs.Option.{option_copied}
use Rattle.std.specs.Slice.{IsItemAt}
use Rattle.std.proofs.lemmas.Option.{slice_get_past, slice_get-get_or}
use Rattle.std.specs.List.Sorted.{IsPartitionedBy, IsPartitionPoint}
use Rattle.std.specs.FinMap.{is_sorted, find, put}
use Rattle.std.specs.FinMap.Entries.{below_all, by_order}
use Rattle.ados_text.specs.Name.{Name, name_cmp, name_cmp_total, name_cmp_exact}
use Rattle.ados_ram.specs.Files.{Rows}
use Rattle.ados_ram.specs.Tree.{Kid, Kids, replace_kid, remove_kid}
use Rattle.ados_ram.specs.Blocks.{all_kids, first_is_at_most, AllFull, AreBlocks, AllBefore, IsBlockOf}
use Rattle.ados_ram.proofs.RowsLemmas.{both, first, is_true, second, tied as less}
use Rattle.ados_ram.proofs.TreeLemmas.{holds}

turned : (a b : Name) (r : Ordering) → name_cmp a b ≡ r → name_cmp b a ≡ ordering_reverse r
turned a b r p = name_cmp_total.antisymm b a ∙ ap ordering_reverse p

-- consecutive lists
pub all-append : (a b : List Kids) → all_kids (a ++ b) ≡ all_kids a ++ all_kids b
all-append [] b = refl
all-append (x ∷ a) b = ap (λ (ks : Kids). x ++ ks) (all-append a b) ∙ sym (append_assoc x (all_kids a) (all_kids b))

pub full-append : (a b : List Kids) → AllFull a → AllFull b → AllFull (a ++ b)
full-append [] b h g = g
full-append (x ∷ a) b h g = (h.0, full-append a b h.1 g)

pub full-front : (a b : List Kids) → AllFull (a ++ b) → AllFull a
full-front [] b h = tt
full-front (x ∷ a) b h = (h.0, full-front a b h.1)

pub full-back : (a b : List Kids) → AllFull (a ++ b) → AllFull b
full-back [] b h = h
full-back (x ∷ a) b h = full-back a b h.1

below-front : (n : Name) (a b : Kids) → T (below_all name_cmp n (a ++ b)) → T (below_all name_cmp n a)
below-front n [] b h = tt
below-front n (k ∷ a) b h = both _ _ (first _ _ h) (below-front n a b (second _ _ h))

below-back : (n : Name) (a b : Kids) → T (below_all name_cmp n (a ++ b)) → T (below_all name_cmp n b)
below-back n [] b h = h
below-back n (k ∷ a) b h = below-back n a b (second _ _ h)

sorted-front : (a b : Kids) → T (is_sorted name_cmp (a ++ b)) → T (is_sorted name_cmp a)
sorted-front [] b h = tt
sorted-front (k ∷ a) b h = both _ _ (below-front k.0 a b (first _ _ h)) (sorted-front a b (second _ _ h))

sorted-back : (a b : Kids) → T (is_sorted name_cmp (a ++ b)) → T (is_sorted name_cmp b)
sorted-back [] b h = h
sorted-back (k ∷ a) b h = sorted-back a b (second _ _ h)

-- a block between others
pub middle-sorted : (a m c all : Kids) → all ≡ a ++ (m ++ c) → IsTrue (is_sorted name_cmp all) → IsTrue (is_sorted name_cmp m)
middle-sorted a m c all e s = is_true _ (sorted-front m c (sorted-back a (m ++ c) (subst (λ (ks : Kids). T (is_sorted name_cmp ks)) e (holds _ s))))

below-through : (x n : Name) (ks : Kids) → name_cmp x n ≡ Less → T (below_all name_cmp n ks) → T (below_all name_cmp x ks)
below-through x n [] p h = tt
below-through x n (k ∷ ks) p h = both _ _ (subst (λ o. T (is_lt o)) (sym (name_cmp_total.trans x n k.0 p (less _ (first _ _ h)))) tt) (below-through x n ks p (second _ _ h))

-- a name before one that is at most another is before the other
upto : (n k x : Name) → name_cmp n k ≡ Less → is_le (name_cmp k x) ≡ true → name_cmp n x ≡ Less
upto n k x p h =
    elim (name_cmp k x) as (λ o. name_cmp k x ≡ o → is_le o ≡ true → name_cmp n x ≡ Less) [
      | Less ↦ λ q t. name_cmp_total.trans n k x p q
      | Equal ↦ λ q t. subst (λ (y : Name). name_cmp n y ≡ Less) (name_cmp_exact k x q) p
      | Greater ↦ λ q t. absurd (subst T (sym t) tt)
    ] refl h

-- a name before all of some blocks is before a name that is at least the first name of one of them
before-begin : (n x : Name) (bs : List Kids) (j : ℕ) (d : Kids) → T (below_all name_cmp n (all_kids bs)) → AllFull bs → j < length bs → first_is_at_most x (slice_index_or bs j d) ≡ true → name_cmp n x ≡ Less
before-begin n x [] j d h f l t = absurd (omega arith)
before-begin n x ([] ∷ bs) zero d h f l t = absurd (omega (arith, f.0))
before-begin n x ((k ∷ ks) ∷ bs) zero d h f l t = upto n k.0 x (less _ (first _ _ h)) t
before-begin n x (b ∷ bs) (suc j) d h f l t = before-begin n x bs j d (below-back n b (all_kids bs) h) f.1 (omega arith) t

le_less : (o : Ordering) → o ≡ Less → is_le o ≡ true
le_less o p = ap is_le p

-- the blocks that begin with the name, or one before it, come first
pub parts : (x : Name) (bs : List Kids) → T (is_sorted name_cmp (all_kids bs)) → AllFull bs → IsPartitionedBy (first_is_at_most x) bs
parts x [] s f i j d p q t = absurd (omega arith)
parts x (b ∷ bs) s f zero zero d p q t = t
parts x ([] ∷ bs) s f zero (suc j) d p q t = absurd (omega (arith, f.0))
parts x ((k ∷ ks) ∷ bs) s f zero (suc j) d p q t = le_less _ (before-begin k.0 x bs j d (below-back k.0 ks (all_kids bs) (first _ _ s)) f.1 (omega arith) t)
parts x (b ∷ bs) s f (suc i) zero d p q t = absurd (omega arith)
parts x (b ∷ bs) s f (suc i) (suc j) d p q t = parts x bs (sorted-back b (all_kids bs) s) f.1 i j d (omega arith) (omega arith) t

front-before : (x : Name) (b rest : Kids) → T (is_sorted name_cmp (b ++ rest)) → ((n : Name) → T (below_all name_cmp n rest) → name_cmp n x ≡ Less) → AllBefore x b
front-before x [] rest s h = tt
front-before x (k ∷ b) rest s h = (turned k.0 x Less (h k.0 (below-back k.0 b rest (first _ _ s))), front-before x b rest (second _ _ s) h)

before-append : (x : Name) (a b : Kids) → AllBefore x a → AllBefore x b → AllBefore x (a ++ b)
before-append x [] b h g = g
before-append x (k ∷ a) b h g = (h.0, before-append x a b h.1 g)

-- the names in the blocks before one that begins with the name or one before it
before_at : (x : Name) (bs : List Kids) (j : ℕ) (d : Kids) → T (is_sorted name_cmp (all_kids bs)) → AllFull bs → j < length bs → first_is_at_most x (slice_index_or bs j d) ≡ true → AllBefore x (all_kids (take j bs))
before_at x [] j d s f l t = absurd (omega arith)
before_at x (b ∷ bs) zero d s f l t = tt
before_at x (b ∷ bs) (suc j) d s f l t =
    before-append x b (all_kids (take j bs))
    (front-before x b (all_kids bs) s (λ n h. before-begin n x bs j d h f.1 (omega arith) t))
    (before_at x bs j d (sorted-back b (all_kids bs) s) f.1 (omega arith) t)

-- the names in the blocks from the first on that begins after the name
after_at : (x : Name) (bs : List Kids) (i : ℕ) → T (is_sorted name_cmp (all_kids bs)) → AllFull bs → AllWithin (λ b. first_is_at_most x b ≡ false) bs i (length bs) → T (below_all name_cmp x (all_kids (drop i bs)))
after_at x [] zero s f h = tt
after_at x [] (suc i) s f h = tt
after_at x ([] ∷ bs) zero s f h = absurd (omega (arith, f.0))
after_at x ((k ∷ ks) ∷ bs) zero s f h =
    let low : name_cmp x k.0 ≡ Less = turned k.0 x Greater (not_le (name_cmp k.0 x) (h 0 [] (omega arith) (omega arith))) in
    both _ _ (subst (λ o. T (is_lt o)) (sym low) tt) (below-through x k.0 (ks ++ all_kids bs) low (first _ _ s))
  where
    not_le : (o : Ordering) → is_le o ≡ false → o ≡ Greater
    not_le Less p = absurd (subst T p tt)
    not_le Equal p = absurd (subst T p tt)
    not_le Greater p = refl
after_at x (b ∷ bs) (suc i) s f h = after_at x bs i (sorted-back b (all_kids bs) s) f.1 (λ k d p q. h (suc k) d (omega arith) (omega arith))

drop-after : (x : Name) (bs : List Kids) → T (below_all name_cmp x (all_kids bs)) → T (below_all name_cmp x (all_kids (drop 1 bs)))
drop-after x [] h = tt
drop-after x (b ∷ bs) h = below-back x b (all_kids bs) h

-- the block before the first that begins after the name
pub parted : (x : Name) (bs : List Kids) (i : ℕ) → AreBlocks bs → i ≤ length bs → IsPartitionPoint (λ b. first_is_at_most x b ≡ true) (λ b. first_is_at_most x b ≡ false) bs i → IsBlockOf x bs (i - 1)
parted x bs zero are l p =
    let e : 0 ≡ zero - 1 = omega arith in
    subst (λ (j : ℕ). IsBlockOf x bs j) e (record { before = tt; after = is_true _ (drop-after x bs (after_at x bs 0 (holds _ are.sorted) are.full p.1)) })
parted x bs (suc i) are l p =
    let e : i ≡ suc i - 1 = omega arith in
    let n : suc i ≡ i + 1 = omega arith in
    subst (λ (j : ℕ). IsBlockOf x bs j) e (record {
      before = before_at x bs i [] (holds _ are.sorted) are.full (omega arith) (p.0 i [] (omega arith) (omega arith));
      after = is_true _ (subst (λ (j : ℕ). T (below_all name_cmp x (all_kids (drop j bs)))) n (after_at x bs (suc i) (holds _ are.sorted) are.full p.1));
    })

-- objects with names before and after a name change nothing for it
find-before : (x : Name) (a rest : Kids) → AllBefore x a → find name_cmp x (a ++ rest) ≡ find name_cmp x rest
find-before x [] rest h = refl
find-before x (k ∷ a) rest h = ap (λ o. cond (is_eq o) (Some k.1) (find name_cmp x (a ++ rest))) h.0 ∙ find-before x a rest h.1

find-after : (x : Name) (m c : Kids) → T (below_all name_cmp x c) → find name_cmp x (m ++ c) ≡ find name_cmp x m
find-after x [] [] h = refl
find-after x [] (k ∷ c) h = ap (λ o. cond (is_eq o) (Some k.1) (find name_cmp x c)) (less _ (first _ _ h)) ∙ find-after x [] c (second _ _ h)
find-after x (k ∷ m) c h = ap (λ (o : Option Rows). cond (is_eq (name_cmp x k.0)) (Some k.1) o) (find-after x m c h)

put-before : (x : Name) (r : Rows) (a rest : Kids) → AllBefore x a → put name_cmp x r (a ++ rest) ≡ a ++ put name_cmp x r rest
put-before x r [] rest h = refl
put-before x r (k ∷ a) rest h =
    ap (λ o. by_order o ((x, r) ∷ k ∷ (a ++ rest)) ((k.0, r) ∷ (a ++ rest)) (k ∷ put name_cmp x r (a ++ rest))) h.0 ∙ ap (λ (ks : Kids). k ∷ ks) (put-before x r a rest h.1)

put-after : (x : Name) (r : Rows) (m c : Kids) → T (below_all name_cmp x c) → put name_cmp x r (m ++ c) ≡ put name_cmp x r m ++ c
put-after x r [] [] h = refl
put-after x r [] (k ∷ c) h = ap (λ o. by_order o ((x, r) ∷ k ∷ c) ((k.0, r) ∷ c) (k ∷ put name_cmp x r c)) (less _ (first _ _ h))
put-after x r (k ∷ m) c h =
    elim (name_cmp x k.0) as (λ o. by_order o ((x, r) ∷ k ∷ (m ++ c)) ((k.0, r) ∷ (m ++ c)) (k ∷ put name_cmp x r (m ++ c)) ≡ by_order o ((x, r) ∷ k ∷ m) ((k.0, r) ∷ m) (k ∷ put name_cmp x r m) ++ c) [
      | Less ↦ refl
      | Equal ↦ refl
      | Greater ↦ ap (λ (ks : Kids). k ∷ ks) (put-after x r m c h)
    ]

without-before : (x : Name) (a rest : Kids) → AllBefore x a → remove_kid x (a ++ rest) ≡ a ++ remove_kid x rest
without-before x [] rest h = refl
without-before x (k ∷ a) rest h = ap (λ o. cond (is_eq o) (remove_kid x (a ++ rest)) (k ∷ remove_kid x (a ++ rest))) h.0 ∙ ap (λ (ks : Kids). k ∷ ks) (without-before x a rest h.1)

without-after : (x : Name) (m c : Kids) → T (below_all name_cmp x c) → remove_kid x (m ++ c) ≡ remove_kid x m ++ c
without-after x [] [] h = refl
without-after x [] (k ∷ c) h = ap (λ o. cond (is_eq o) (remove_kid x c) (k ∷ remove_kid x c)) (less _ (first _ _ h)) ∙ ap (λ (ks : Kids). k ∷ ks) (without-after x [] c (second _ _ h))
without-after x (k ∷ m) c h =
    elim (is_eq (name_cmp x k.0)) as (λ b. cond b (remove_kid x (m ++ c)) (k ∷ remove_kid x (m ++ c)) ≡ cond b (remove_kid x m) (k ∷ remove_kid x m) ++ c) [
      | true ↦ without-after x m c h
      | false ↦ ap (λ (ks : Kids). k ∷ ks) (without-after x m c h)
    ]

find-middle : (x : Name) (a m c : Kids) → AllBefore x a → T (below_all name_cmp x c) → find name_cmp x (a ++ (m ++ c)) ≡ find name_cmp x m
find-middle x a m c h g = find-before x a (m ++ c) h ∙ find-after x m c g

with-middle : (x : Name) (new : Option Kid) (a m c : Kids) → AllBefore x a → T (below_all name_cmp x c) → replace_kid x new (a ++ (m ++ c)) ≡ a ++ (replace_kid x new m ++ c)
with-middle x None a m c h g = without-before x a (m ++ c) h ∙ ap (λ (ks : Kids). a ++ ks) (without-after x m c g)
with-middle x (Some k) a m c h g = put-before x k.1 a (m ++ c) h ∙ ap (λ (ks : Kids). a ++ ks) (put-after x k.1 m c g)

-- the blocks before one, the block itself, and those after it
pub around : (bs : List Kids) (i : ℕ) (b : Kids) → slice_get bs i ≡ Some b → all_kids bs ≡ all_kids (take i bs) ++ (b ++ all_kids (drop (i + 1) bs))
around [] i b e = cc
around (c ∷ bs) zero b e = ap (λ (ks : Kids). ks ++ all_kids bs) (of_some c b e)
  where
    of_some : (c b : Kids) → Some c ≡ Some b → c ≡ b
    of_some c b e = cc
around (c ∷ bs) (suc i) b e =
    let n : suc (i + 1) ≡ suc i + 1 = omega arith in
    ap (λ (ks : Kids). c ++ ks) (around bs i b e) ∙ sym (append_assoc c (all_kids (take i bs)) (b ++ all_kids (drop (i + 1) bs)))
    ∙ ap (λ (j : ℕ). (c ++ all_kids (take i bs)) ++ (b ++ all_kids (drop j (c ∷ bs)))) n

pub found_in : {lent : List Kids} (x : Name) (bs : List Kids) (i : ℕ) (b : Kids) → lent ≡ bs → IsBlockOf x lent i → slice_get bs i ≡ Some b → find name_cmp x (all_kids bs) ≡ find name_cmp x b
found_in x bs i b own there e =
    let at = subst (λ (t : List Kids). IsBlockOf x t i) own there in
    ap (find name_cmp x) (around bs i b e) ∙ find-middle x _ b _ at.before (holds _ at.after)

all-before : (bs : List Kids) (i : ℕ) → slice_get bs i ≡ None → take i bs ≡ bs
all-before [] zero e = refl
all-before [] (suc i) e = refl
all-before (b ∷ bs) zero e = cc
all-before (b ∷ bs) (suc i) e = ap (λ (t : List Kids). b ∷ t) (all-before bs i e)

pub found_none : {lent : List Kids} (x : Name) (bs : List Kids) (i : ℕ) → lent ≡ bs → IsBlockOf x lent i → slice_get bs i ≡ None → find name_cmp x (all_kids bs) ≡ None
found_none x bs i own there e =
    let at = subst (λ (t : List Kids). IsBlockOf x t i) own there in
    let h : AllBefore x (all_kids bs) = subst (λ (t : List Kids). AllBefore x (all_kids t)) (all-before bs i e) at.before in
    sym (ap (find name_cmp x) (append-nil (all_kids bs))) ∙ find-before x (all_kids bs) [] h

-- the blocks with another one in place of one of them
drop-next : (bs rest : List Kids) (i : ℕ) (b : Kids) → drop i bs ≡ b ∷ rest → drop (i + 1) bs ≡ rest
drop-next [] rest zero b e = cc
drop-next [] rest (suc i) b e = cc
drop-next (c ∷ bs) rest zero b e = cc
drop-next (c ∷ bs) rest (suc i) b e = let n : suc i + 1 ≡ suc (i + 1) = omega arith in ap (λ (j : ℕ). drop j (c ∷ bs)) n ∙ drop-next bs rest i b e

pub changed_in : (x : Name) (new : Option Kid) (bs front rest : List Kids) (i : ℕ) (b out : Kids) (made : List Kids) → IsBlockOf x bs i → front ≡ take i bs → drop i bs ≡ b ∷ rest
    → out ≡ replace_kid x new b → all_kids made ≡ (all_kids front ++ out) ++ all_kids rest → all_kids made ≡ replace_kid x new (all_kids bs)
changed_in x new bs front rest i b out made at f d o m =
    let whole : all_kids bs ≡ all_kids (take i bs) ++ (b ++ all_kids rest) = ap all_kids (sym (take-append-drop i bs) ∙ ap (λ (t : List Kids). take i bs ++ t) d) ∙ all-append (take i bs) (b ∷ rest) in
    let after : IsTrue (below_all name_cmp x (all_kids rest)) = subst (λ (t : List Kids). IsTrue (below_all name_cmp x (all_kids t))) (drop-next bs rest i b d) at.after in
    m ∙ ap (λ (t : List Kids). (all_kids t ++ out) ++ all_kids rest) f ∙ append_assoc (all_kids (take i bs)) out (all_kids rest)
    ∙ ap (λ (ks : Kids). all_kids (take i bs) ++ (ks ++ all_kids rest)) o
    ∙ sym (ap (replace_kid x new) whole ∙ with-middle x new (all_kids (take i bs)) b (all_kids rest) at.before (holds _ after))

none-left : (bs : List Kids) → length bs ≡ 0 → bs ≡ []
none-left [] e = refl
none-left (b ∷ bs) e = absurd (omega arith)

pub changed_after : (x : Name) (new : Option Kid) (bs front rest : List Kids) (i : ℕ) (out : Kids) (made : List Kids) → IsBlockOf x bs i → front ≡ take i bs → rest ≡ drop i bs → length rest ≡ 0
    → out ≡ replace_kid x new [] → all_kids made ≡ all_kids front ++ out → all_kids made ≡ replace_kid x new (all_kids bs)
changed_after x new bs front rest i out made at f d l o m =
    let e : drop i bs ≡ [] = sym d ∙ none-left rest l in
    let whole : bs ≡ take i bs = sym (take-append-drop i bs) ∙ ap (λ (t : List Kids). take i bs ++ t) e ∙ append-nil (take i bs) in
    let own : all_kids bs ≡ all_kids (take i bs) ++ [] = ap all_kids whole ∙ sym (append-nil (all_kids (take i bs))) in
    m ∙ ap (λ (t : List Kids). all_kids t ++ out) f ∙ ap (λ (ks : Kids). all_kids (take i bs) ++ ks) (o ∙ sym (append-nil (replace_kid x new [])))
    ∙ sym (ap (replace_kid x new) own ∙ with-middle x new (all_kids (take i bs)) [] [] at.before tt)

pub none-in : (bs : List Kids) → AllFull bs → (length (all_kids bs) == 0) ≡ (length bs == 0)
none-in [] f = refl
none-in (b ∷ bs) f =
    let size : length (b ++ all_kids bs) ≡ length b + length (all_kids bs) = length-append b (all_kids bs) in
    let some = f.0 in
    grind (arith, nat_tests)

-- one object of a list borrowed at an index
lent : {X : Type 0} (xs : List X) (i : ℕ) (r : Option (Bor X)) → IsItemAt xs i r → option_copied r ≡ slice_get xs i
lent xs i None h = let test = h.0 in sym (slice_get_past xs i (grind (arith, nat_tests)))
lent xs i (Some x) h = let test = h.0 in ap Some h.1 ∙ sym (slice_get-get_or xs i x.now (grind (arith, nat_tests)))

pub block-at : {held : List Kids} (bs : List Kids) (i : ℕ) (got : Option (Bor Kids)) → held ≡ bs → IsItemAt held i got → slice_get bs i ≡ option_copied got
block-at bs i got own is = ap (λ (t : List Kids). slice_get t i) (sym own) ∙ sym (lent _ i got is)
