-- The index at which a search among the objects of a directory finds a name.
use Rattle.std.proofs.Common.{◌≡◌, ℕ, zero, suc, ◌<◌, ◌≤◌, Bool, T, cond, List, [], ◌∷◌, length, Some, None, Result, Ok, Err, IsTrue, slice_index_or, refl, sym, ap, ◌∙◌, subst, arith}
use Rattle.std.specs.declared.cmp.Ordering.{Ordering}
use Rattle.std.specs.declared.cmp.Ordering.TheVariants.{Less, Equal, Greater}
use Rattle.std.specs.Ordering.{is_eq, ordering_reverse, ordering_index}
use Rattle.std.specs.List.{HoldsAt, AllWithin}
use Rattle.std.specs.List.Sorted.{IsBinarySearchResult, IsNonDecreasingBy, IsSearchInRange}
use Rattle.std.specs.FinMap.{is_sorted, find, put}
use Rattle.std.specs.FinMap.Entries.{below_all, by_order}
use Rattle.ados_ram.specs.Files.{Rows}
use Rattle.ados_text.specs.Name.{name_cmp, name_cmp_total, name_cmp_exact}
use Rattle.ados_ram.proofs.RowsLemmas.{first, second, tied as less}
use Rattle.ados_ram.specs.Tree.{Kids, remove_kid, IsKid, IsKidGap, IsKidPosition}

turned : (a b : List ℕ) (r : Ordering) → name_cmp a b ≡ r → name_cmp b a ≡ ordering_reverse r
turned a b r p = name_cmp_total.antisymm b a ∙ ap ordering_reverse p

-- a name before all objects is the name of none
pub above_all : (k q : List ℕ) (es : Kids) → name_cmp k q ≡ Less → T (below_all name_cmp q es) → remove_kid k es ≡ es
above_all k q [] p h = refl
above_all k q (e ∷ es) p h =
    ap (λ r. cond (is_eq r) (remove_kid k es) (e ∷ remove_kid k es)) (name_cmp_total.trans k q e.0 p (less _ (first _ _ h))) ∙ ap (λ (r : Kids). e ∷ r) (above_all k q es p (second _ _ h))

pub none_above : (k q : List ℕ) (es : Kids) → name_cmp k q ≡ Less → T (below_all name_cmp q es) → find name_cmp k es ≡ None
none_above k q [] p h = refl
none_above k q (e ∷ es) p h =
    ap (λ r. cond (is_eq r) (Some e.1) (find name_cmp k es)) (name_cmp_total.trans k q e.0 p (less _ (first _ _ h))) ∙ none_above k q es p (second _ _ h)

pub tied_all : (k q : List ℕ) (es : Kids) → name_cmp k q ≡ Equal → T (below_all name_cmp q es) → remove_kid k es ≡ es
tied_all k q [] p h = refl
tied_all k q (e ∷ es) p h =
    ap (λ r. cond (is_eq r) (remove_kid k es) (e ∷ remove_kid k es)) (name_cmp_total.congr k q e.0 p ∙ less _ (first _ _ h)) ∙ ap (λ (r : Kids). e ∷ r) (tied_all k q es p (second _ _ h))

-- a name before all objects is before each
below_at : (q : List ℕ) (es : Kids) (i : ℕ) (d : List ℕ × Rows) → T (below_all name_cmp q es) → i < length es → name_cmp q (slice_index_or es i d).0 ≡ Less
below_at q [] i d h p = absurd (omega arith)
below_at q (e ∷ es) zero d h p = less _ (first _ _ h)
below_at q (e ∷ es) (suc i) d h p = below_at q es i d (second _ _ h) (omega arith)

at_most_2 : (r : Ordering) → ordering_index r ≤ 2
at_most_2 Less = omega arith
at_most_2 Equal = omega arith
at_most_2 Greater = omega arith

rises : (a b key : List ℕ) → name_cmp a b ≡ Less → ordering_index (name_cmp a key) ≤ ordering_index (name_cmp b key)
rises a b key p =
    elim (name_cmp b key) as (λ r. name_cmp b key ≡ r → ordering_index (name_cmp a key) ≤ ordering_index r) [
      | Less ↦ λ q. let e : ordering_index (name_cmp a key) ≡ 0 = ap ordering_index (name_cmp_total.trans a b key p q) in omega arith
      | Equal ↦ λ q. let e : ordering_index (name_cmp a key) ≡ 0 = ap ordering_index (subst (λ (k : List ℕ). name_cmp a k ≡ Less) (name_cmp_exact b key q) p) in omega arith
      | Greater ↦ λ q. at_most_2 (name_cmp a key)
    ] refl

all_rise : (key : List ℕ) (es : Kids) → T (is_sorted name_cmp es) → IsNonDecreasingBy (λ e. ordering_index (name_cmp e.0 key)) es
all_rise key [] h i j d p q = absurd (omega arith)
all_rise key (e ∷ es) h zero zero d p q = omega arith
all_rise key (e ∷ es) h zero (suc j) d p q = rises e.0 _ key (below_at e.0 es j d (first _ _ h) (omega arith))
all_rise key (e ∷ es) h (suc i) zero d p q = absurd (omega arith)
all_rise key (e ∷ es) h (suc i) (suc j) d p q = all_rise key es (second _ _ h) i j d (omega arith) (omega arith)

-- an object before the index changes nothing
past_there : (key : List ℕ) (e : List ℕ × Rows) (es : Kids) (i : ℕ) → name_cmp key e.0 ≡ Greater → IsKid key es i → IsKid key (e ∷ es) (suc i)
past_there key e es i g t =
    let within = t.within in
    record {
      within = omega arith;
      name = λ d. t.name d;
      found = λ d. ap (λ r. cond (is_eq r) (Some e.1) (find name_cmp key es)) g ∙ t.found d;
      put = λ new. ap (λ r. by_order r ((key, new) ∷ e ∷ es) ((e.0, new) ∷ es) (e ∷ put name_cmp key new es)) g ∙ ap (λ (xs : Kids). e ∷ xs) (t.put new);
      without = ap (λ r. cond (is_eq r) (remove_kid key es) (e ∷ remove_kid key es)) g ∙ ap (λ (xs : Kids). e ∷ xs) t.without;
    }

past_gap : (key : List ℕ) (e : List ℕ × Rows) (es : Kids) (i : ℕ) → name_cmp key e.0 ≡ Greater → IsKidGap key es i → IsKidGap key (e ∷ es) (suc i)
past_gap key e es i g t =
    let within = t.within in
    record {
      within = omega arith;
      absent = ap (λ r. cond (is_eq r) (Some e.1) (find name_cmp key es)) g ∙ t.absent;
      put = λ new. ap (λ r. by_order r ((key, new) ∷ e ∷ es) ((e.0, new) ∷ es) (e ∷ put name_cmp key new es)) g ∙ ap (λ (xs : Kids). e ∷ xs) (t.put new);
      without = ap (λ r. cond (is_eq r) (remove_kid key es) (e ∷ remove_kid key es)) g ∙ ap (λ (xs : Kids). e ∷ xs) t.without;
    }

there : (key : List ℕ) (es : Kids) (i : ℕ) → T (is_sorted name_cmp es) → i < length es → HoldsAt (λ e. name_cmp e.0 key ≡ Equal) es i → IsKid key es i
there key [] i h p at = absurd (omega arith)
there key (e ∷ es) zero h p at =
    let tied : name_cmp key e.0 ≡ Equal = turned e.0 key Equal (at e) in
    record {
      within = omega arith;
      name = λ d. name_cmp_exact e.0 key (at e);
      found = λ d. ap (λ r. cond (is_eq r) (Some e.1) (find name_cmp key es)) tied;
      put = λ new. ap (λ r. by_order r ((key, new) ∷ e ∷ es) ((e.0, new) ∷ es) (e ∷ put name_cmp key new es)) tied ∙ ap (λ (k : List ℕ). (k, new) ∷ es) (name_cmp_exact e.0 key (at e));
      without = ap (λ r. cond (is_eq r) (remove_kid key es) (e ∷ remove_kid key es)) tied ∙ tied_all key e.0 es tied (first _ _ h);
    }
there key (e ∷ es) (suc i) h p at =
    let before : name_cmp e.0 key ≡ Less = subst (λ (k : List ℕ). name_cmp e.0 k ≡ Less) (name_cmp_exact _ key (at e)) (below_at e.0 es i e (first _ _ h) (omega arith)) in
    past_there key e es i (turned e.0 key Less before) (there key es i (second _ _ h) (omega arith) at)

gap : (key : List ℕ) (es : Kids) (i : ℕ) → T (is_sorted name_cmp es) → i ≤ length es → AllWithin (λ e. name_cmp e.0 key ≡ Less) es 0 i → AllWithin (λ e. name_cmp e.0 key ≡ Greater) es i (length es) → IsKidGap key es i
gap key [] zero h p low high = record { within = omega arith; absent = refl; put = λ new. refl; without = refl }
gap key [] (suc i) h p low high = absurd (omega arith)
gap key (e ∷ es) zero h p low high =
    let before : name_cmp key e.0 ≡ Less = turned e.0 key Greater (high 0 e (omega arith) (omega arith)) in
    record {
      within = omega arith;
      absent = ap (λ r. cond (is_eq r) (Some e.1) (find name_cmp key es)) before ∙ none_above key e.0 es before (first _ _ h);
      put = λ new. ap (λ r. by_order r ((key, new) ∷ e ∷ es) ((e.0, new) ∷ es) (e ∷ put name_cmp key new es)) before;
      without = ap (λ r. cond (is_eq r) (remove_kid key es) (e ∷ remove_kid key es)) before ∙ ap (λ (xs : Kids). e ∷ xs) (above_all key e.0 es before (first _ _ h));
    }
gap key (e ∷ es) (suc i) h p low high =
    past_gap key e es i (turned e.0 key Less (low 0 e (omega arith) (omega arith)))
    (gap key es i (second _ _ h) (omega arith) (λ k d a b. low (suc k) d (omega arith) (omega arith)) (λ k d a b. high (suc k) d (omega arith) (omega arith)))

holds : (b : Bool) → IsTrue b → T b
holds b h = subst T (sym h) tt

-- what a binary search among objects in order finds
pub searched : (key : List ℕ) (es : Kids) (at : Result ℕ ℕ) → IsTrue (is_sorted name_cmp es) → IsSearchInRange at (length es) → IsBinarySearchResult (λ e. name_cmp e.0 key) es at → IsKidPosition key es at
searched key es (Ok i) h within found = there key es i (holds _ h) within found
searched key es (Err i) h within parted =
    let apart = parted (all_rise key es (holds _ h)) in
    gap key es i (holds _ h) within apart.0 apart.1
