-- What a directory's list holds: just the places that it is to hold, each once, in order.
use Rattle.std.proofs.Common.{◌≡◌, ℕ, zero, suc, ◌<◌, Bool, true, false, cond, ◌&&◌, T, List, [], ◌∷◌, ◌++◌, Some, None, IsSome, IsTrue, refl, sym, ap, ◌∙◌, subst, ◌⊎◌, inl, inr, arith, length, slice_index_or}
use Rattle.std.specs.List.{Contains, AllByRecursion}
use Rattle.std.specs.List.Sorted.{IsStrictlySortedBy}
use Rattle.std.proofs.lemmas.List.Elements.{Contains-append_right, Contains-append_cases}
use Rattle.std.specs.declared.cmp.Ordering.{Ordering}
use Rattle.std.specs.declared.cmp.Ordering.TheVariants.{Less, Equal, Greater}
use Rattle.std.specs.Ordering.{ordering_then, ordering_reverse, is_eq, is_lt}
use Rattle.std.specs.FinMap.{find, is_sorted}
use Rattle.std.specs.FinMap.Entries.{below_all}
use Rattle.std.specs.Cmp.{eq_by_cmp_equiv}
use Rattle.ados_text.specs.Name.{name_cmp, name_cmp_exact, name_cmp_total}
use Rattle.ados_ram.specs.declared.entries.Entry.{Entry}
use Rattle.ados_ram.specs.Place.{Key, place_cmp, place_cmp_total, is_same_key, key_suffix, has_names, is_below}
use Rattle.ados_ram.specs.Files.{Rows}
use Rattle.ados_ram.specs.Contents.{put_after_contents, contents, contents_cmp}
use Rattle.ados_ram.proofs.FilesLemmas.{equal, same, clash}

-- the order of contents
back : (x y : List ℕ) → name_cmp x y ≡ Equal → name_cmp y x ≡ Equal
back x y e = name_cmp_total.antisymm y x ∙ ap ordering_reverse e

pub below-first : (p q : Key) → is_below p q ≡ true → contents_cmp q p ≡ Less
below-first [] [] h = clash h
below-first [] (n ∷ ns) h = refl
below-first (n ∷ ns) [] h = clash h
below-first (n ∷ ns) (x ∷ xs) h =
    elim (is_eq (name_cmp n x)) as (λ b. is_eq (name_cmp n x) ≡ b → has_names (cond b (key_suffix ns xs) None) ≡ true → contents_cmp (x ∷ xs) (n ∷ ns) ≡ Less) [
      | true ↦ λ t g. ap (λ o. ordering_then o (contents_cmp xs ns)) (back n x (equal (name_cmp n x) t)) ∙ below-first ns xs g
      | false ↦ λ t g. clash g
    ] refl h

pub aside-first : (p q : Key) → place_cmp p q ≡ Less → is_below p q ≡ false → contents_cmp p q ≡ Less
aside-first [] [] e h = cc
aside-first [] (y ∷ ys) e h = clash (sym h)
aside-first (x ∷ xs) [] e h = cc
aside-first (x ∷ xs) (y ∷ ys) e h =
    elim (name_cmp x y) as (λ o. ordering_then o (place_cmp xs ys) ≡ Less → has_names (cond (is_eq o) (key_suffix xs ys) None) ≡ false → ordering_then o (contents_cmp xs ys) ≡ Less) [
      | Less ↦ λ f g. refl
      | Equal ↦ λ f g. aside-first xs ys f g
      | Greater ↦ λ f g. cc
    ] e h

later-first : (a b c : Key) → contents_cmp a b ≡ Less → contents_cmp b c ≡ Less → contents_cmp a c ≡ Less
later-first [] [] c e f = cc
later-first [] (y ∷ ys) c e f = cc
later-first (x ∷ xs) [] [] e f = cc
later-first (x ∷ xs) [] (z ∷ zs) e f = cc
later-first (x ∷ xs) (y ∷ ys) [] e f = refl
later-first (x ∷ xs) (y ∷ ys) (z ∷ zs) e f =
    elim (name_cmp x y) as (λ o. name_cmp x y ≡ o → ordering_then o (contents_cmp xs ys) ≡ Less → contents_cmp (x ∷ xs) (z ∷ zs) ≡ Less) [
      | Less ↦ λ p g. elim (name_cmp y z) as (λ o. name_cmp y z ≡ o → ordering_then o (contents_cmp ys zs) ≡ Less → contents_cmp (x ∷ xs) (z ∷ zs) ≡ Less) [
        | Less ↦ λ q k. ap (λ o. ordering_then o (contents_cmp xs zs)) (name_cmp_total.trans x y z p q)
        | Equal ↦ λ q k. ap (λ o. ordering_then o (contents_cmp xs zs)) (subst (λ (n : List ℕ). name_cmp x n ≡ Less) (name_cmp_exact y z q) p)
        | Greater ↦ λ q k. cc
      ] refl f
      | Equal ↦ λ p g. elim (name_cmp y z) as (λ o. name_cmp y z ≡ o → ordering_then o (contents_cmp ys zs) ≡ Less → contents_cmp (x ∷ xs) (z ∷ zs) ≡ Less) [
        | Less ↦ λ q k. ap (λ o. ordering_then o (contents_cmp xs zs)) (name_cmp_total.congr x y z p ∙ q)
        | Equal ↦ λ q k. ap (λ o. ordering_then o (contents_cmp xs zs)) (name_cmp_total.congr x y z p ∙ q) ∙ later-first xs ys zs g k
        | Greater ↦ λ q k. cc
      ] refl f
      | Greater ↦ λ p g. cc
    ] refl e

-- a place comes before the directories that it is in, and otherwise the first names that differ decide
pub inside-first : (place : Key) (name : List ℕ) (way : Key) → contents_cmp (place ++ name ∷ way) place ≡ Less
inside-first [] name way = refl
inside-first (x ∷ xs) name way = ap (λ o. ordering_then o (contents_cmp (xs ++ name ∷ way) xs)) (equal (name_cmp x x) ((eq_by_cmp_equiv name_cmp_total).refl x)) ∙ inside-first xs name way

pub name-first : (place : Key) (one other : List ℕ) (way rest : Key) → name_cmp one other ≡ Less → contents_cmp (place ++ one ∷ way) (place ++ other ∷ rest) ≡ Less
name-first [] one other way rest e = ap (λ o. ordering_then o (contents_cmp way rest)) e
name-first (x ∷ xs) one other way rest e = ap (λ o. ordering_then o (contents_cmp (xs ++ one ∷ way) (xs ++ other ∷ rest))) (equal (name_cmp x x) ((eq_by_cmp_equiv name_cmp_total).refl x)) ∙ name-first xs one other way rest e

-- what a list holds
pub here : {X : Type 0} (x : X) (xs : List X) → Contains (x ∷ xs) x
here x xs = (0, omega arith, refl)

pub there : {X : Type 0} (y x : X) (xs : List X) → Contains xs x → Contains (y ∷ xs) x
there y x xs h = Contains-append_right (y ∷ []) xs x h

only : {X : Type 0} (y x : X) → Contains (y ∷ []) x → y ≡ x
only y x h = at h.0 h.1 h.2
  where
    at : (k : ℕ) → k < length (y ∷ []) → slice_index_or (y ∷ []) k x ≡ x → y ≡ x
    at zero l e = e
    at (suc k) l e = absurd (omega (arith, l))

pub cases : {X : Type 0} (y x : X) (xs : List X) → Contains (y ∷ xs) x → (y ≡ x) ⊎ Contains xs x
cases y x xs h = elim (Contains-append_cases (y ∷ []) xs x h) [ inl e ↦ inl (only y x e) | inr e ↦ inr e ]

pub none : {A X : Type 0} (x : X) → Contains [] x → A
none x h = absurd (omega (arith, h.1))

pub all-at : {X : Type 0} (P : X → Type 0) (xs : List X) (x : X) → AllByRecursion P xs → Contains xs x → P x
all-at P [] x h c = none x c
all-at P (y ∷ ys) x h c = elim (cases y x ys c) [ inl e ↦ subst P e h.0 | inr e ↦ all-at P ys x h.1 e ]

-- a place inserted after those below it
put-has : (p q : Key) (ps : List Key) → (p ≡ q) ⊎ Contains ps q → Contains (put_after_contents p ps) q
put-has p q [] h = elim h [ inl e ↦ subst (Contains (p ∷ [])) e (here p []) | inr e ↦ none q e ]
put-has p q (x ∷ xs) h =
    elim (is_below p x) as (λ b. Contains (cond b (x ∷ put_after_contents p xs) (p ∷ x ∷ xs)) q) [
      | true ↦ elim h [
        | inl e ↦ there x q (put_after_contents p xs) (put-has p q xs (inl e))
        | inr e ↦ elim (cases x q xs e) [ inl f ↦ subst (Contains (x ∷ put_after_contents p xs)) f (here x (put_after_contents p xs)) | inr f ↦ there x q (put_after_contents p xs) (put-has p q xs (inr f)) ]
      ]
      | false ↦ elim h [ inl e ↦ subst (Contains (p ∷ x ∷ xs)) e (here p (x ∷ xs)) | inr e ↦ there p q (x ∷ xs) e ]
    ]

put-only : (p q : Key) (ps : List Key) → Contains (put_after_contents p ps) q → (p ≡ q) ⊎ Contains ps q
put-only p q [] h = inl (only p q h)
put-only p q (x ∷ xs) h =
    elim (is_below p x) as (λ b. Contains (cond b (x ∷ put_after_contents p xs) (p ∷ x ∷ xs)) q → (p ≡ q) ⊎ Contains (x ∷ xs) q) [
      | true ↦ λ c. elim (cases x q (put_after_contents p xs) c) [
        | inl e ↦ inr (subst (Contains (x ∷ xs)) e (here x xs))
        | inr e ↦ elim (put-only p q xs e) [ inl f ↦ inl f | inr f ↦ inr (there x q xs f) ]
      ]
      | false ↦ λ c. cases p q (x ∷ xs) c
    ] h

put-all : (P : Key → Type 0) (p : Key) (ps : List Key) → P p → AllByRecursion P ps → AllByRecursion P (put_after_contents p ps)
put-all P p [] h all = (h, tt)
put-all P p (x ∷ xs) h all = elim (is_below p x) as (λ b. AllByRecursion P (cond b (x ∷ put_after_contents p xs) (p ∷ x ∷ xs))) [ true ↦ (all.0, put-all P p xs h all.1) | false ↦ (h, all) ]

-- a place before one is before all that come after that one
all-later : (p x : Key) (xs : List Key) → contents_cmp p x ≡ Less → AllByRecursion (λ q. contents_cmp x q ≡ Less) xs → AllByRecursion (λ q. contents_cmp p q ≡ Less) xs
all-later p x [] e h = tt
all-later p x (y ∷ ys) e h = (later-first p x y e h.0, all-later p x ys e h.1)

put-sorted : (p : Key) (ps : List Key) → AllByRecursion (λ q. place_cmp p q ≡ Less) ps → IsStrictlySortedBy contents_cmp ps → IsStrictlySortedBy contents_cmp (put_after_contents p ps)
unfolding IsStrictlySortedBy
put-sorted p [] after sorted = (tt, tt)
put-sorted p (x ∷ xs) after sorted =
    elim (is_below p x) as (λ b. is_below p x ≡ b → IsStrictlySortedBy contents_cmp (cond b (x ∷ put_after_contents p xs) (p ∷ x ∷ xs))) [
      | true ↦ λ t. (put-all (λ q. contents_cmp x q ≡ Less) p xs (below-first p x t) sorted.0, put-sorted p xs after.1 sorted.1)
      | false ↦ λ t. let e = aside-first p x after.0 t in ((e, all-later p x xs e sorted.0), sorted)
    ] refl

-- what is known about rows in order
pub both-first : (a b : Bool) → T (a && b) → T a
both-first true b p = tt
both-first false b p = p

pub both-second : (a b : Bool) → T (a && b) → T b
both-second true b p = p
both-second false b p = absurd p

pub less : (o : Ordering) → T (is_lt o) → o ≡ Less
less Less p = refl
less Equal p = absurd p
less Greater p = absurd p

pub self : (a : Key) → is_same_key a a ≡ true
self a = (eq_by_cmp_equiv place_cmp_total).refl a

found-here : (q : Key) (e : Key × Entry) (es : Rows) → e.0 ≡ q → IsSome (find place_cmp q (e ∷ es))
found-here q e es k = subst (λ (p : Key). IsSome (find place_cmp p (e ∷ es))) k (subst (λ (b : Bool). IsSome (cond b (Some e.1) (find place_cmp e.0 es))) (sym (self e.0)) refl)

found-later : (q : Key) (e : Key × Entry) (es : Rows) → IsSome (find place_cmp q es) → IsSome (find place_cmp q (e ∷ es))
found-later q e es h = elim (is_same_key q e.0) as (λ b. IsSome (cond b (Some e.1) (find place_cmp q es))) [ true ↦ refl | false ↦ h ]

contents-after : (d p : Key) (es : Rows) → T (below_all place_cmp p es) → AllByRecursion (λ q. place_cmp p q ≡ Less) (contents d es)
contents-after d p [] h = tt
contents-after d p (e ∷ es) h =
    let rest = contents-after d p es (both-second (is_lt (place_cmp p e.0)) (below_all place_cmp p es) h) in
    elim (is_below d e.0) as (λ b. AllByRecursion (λ q. place_cmp p q ≡ Less) (cond b (put_after_contents e.0 (contents d es)) (contents d es))) [
      | true ↦ put-all (λ q. place_cmp p q ≡ Less) e.0 (contents d es) (less (place_cmp p e.0) (both-first (is_lt (place_cmp p e.0)) (below_all place_cmp p es) h)) rest
      | false ↦ rest
    ]

pub contents-sorted : (d : Key) (es : Rows) → T (is_sorted place_cmp es) → IsStrictlySortedBy contents_cmp (contents d es)
unfolding IsStrictlySortedBy
contents-sorted d [] h = tt
contents-sorted d (e ∷ es) h =
    let rest = contents-sorted d es (both-second (below_all place_cmp e.0 es) (is_sorted place_cmp es) h) in
    elim (is_below d e.0) as (λ b. IsStrictlySortedBy contents_cmp (cond b (put_after_contents e.0 (contents d es)) (contents d es))) [
      | true ↦ put-sorted e.0 (contents d es) (contents-after d e.0 es (both-first (below_all place_cmp e.0 es) (is_sorted place_cmp es) h)) rest
      | false ↦ rest
    ]

pub contents-only : (d q : Key) (es : Rows) → Contains (contents d es) q → IsSome (find place_cmp q es) × IsTrue (is_below d q)
contents-only d q [] c = none q c
contents-only d q (e ∷ es) c =
    elim (is_below d e.0) as (λ b. is_below d e.0 ≡ b → Contains (cond b (put_after_contents e.0 (contents d es)) (contents d es)) q → IsSome (find place_cmp q (e ∷ es)) × IsTrue (is_below d q)) [
      | true ↦ λ t g. elim (put-only e.0 q (contents d es) g) [
        | inl k ↦ (found-here q e es k, subst (λ (p : Key). is_below d p ≡ true) k t)
        | inr k ↦ let r = contents-only d q es k in (found-later q e es r.0, r.1)
      ]
      | false ↦ λ t g. let r = contents-only d q es g in (found-later q e es r.0, r.1)
    ] refl c

pub contents-told : (d q : Key) (es : Rows) → IsSome (find place_cmp q es) → IsTrue (is_below d q) → Contains (contents d es) q
contents-told d q [] h below = clash h
contents-told d q (e ∷ es) h below =
    elim (is_same_key q e.0) as (λ b. is_same_key q e.0 ≡ b → IsSome (cond b (Some e.1) (find place_cmp q es)) → Contains (contents d (e ∷ es)) q) [
      | true ↦ λ t g.
          let k : q ≡ e.0 = same q e.0 t in
          subst (λ (b : Bool). Contains (cond b (put_after_contents e.0 (contents d es)) (contents d es)) q) (sym (subst (λ (p : Key). is_below d p ≡ true) k below)) (put-has e.0 q (contents d es) (inl (sym k)))
      | false ↦ λ t g.
          let rest = contents-told d q es g below in
          elim (is_below d e.0) as (λ b. Contains (cond b (put_after_contents e.0 (contents d es)) (contents d es)) q) [ true ↦ put-has e.0 q (contents d es) (inr rest) | false ↦ rest ]
    ] refl h
