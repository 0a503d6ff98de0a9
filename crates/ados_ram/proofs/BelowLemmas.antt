-- The contents of a directory: for each object in it what is below that, and then the object.
use Rattle.std.proofs.Common.{◌≡◌, ℕ, ◌<◌, ◌+◌, true, false, T, cond, List, [], ◌∷◌, ◌++◌, Option, Some, None, IsSome, zero, suc, refl, sym, ap, ◌∙◌, subst, append_assoc, length, slice_index_or, drop, drop-cons, add-one}
use Rattle.std.specs.declared.cmp.Ordering.TheVariants.{Less}
use Rattle.std.specs.Ordering.{is_eq}
use Rattle.std.specs.Cmp.{tied_itself}
use Rattle.std.specs.FinMap.{is_sorted, find}
use Rattle.std.specs.FinMap.Entries.{below_all}
use Rattle.ados_text.specs.Name.{name_cmp, name_cmp_total}
use Rattle.ados_ram.specs.declared.entries.Entry.{Entry}
use Rattle.ados_ram.specs.Place.{Key, place_cmp, is_root, is_below, key_suffix, has_names}
use Rattle.ados_ram.specs.Files.{Rows}
use Rattle.ados_ram.specs.Contents.{put_after_contents, contents}
use Rattle.ados_ram.specs.Tree.{Kid, Kids, IsSubtree, AllSubtrees, AreKids, rows_under_name, flatten, rows_of, subtree_rows, with_way, places_of_ways}
use Rattle.ados_ram.proofs.RowsLemmas.{first, second, tied as less}
use Rattle.ados_ram.proofs.RenameLemmas.{after-exact}
use Rattle.ados_ram.proofs.TreeLemmas.{holds}
use Rattle.ados_ram.proofs.WalkLemmas.{IsTop, is_top}

-- two paths from one place
after-same : (key w q : Key) → key_suffix (key ++ w) (key ++ q) ≡ key_suffix w q
after-same [] w q = refl
after-same (n ∷ ns) w q = ap (λ o. cond (is_eq o) (key_suffix (ns ++ w) (ns ++ q)) None) (tied_itself name_cmp_total n) ∙ after-same ns w q

below-same : (key w q : Key) → is_below (key ++ w) (key ++ q) ≡ is_below w q
below-same key w q = ap has_names (after-same key w q)

put-ways : (key w : Key) (ws rest : List Key) → put_after_contents (key ++ w) rest ≡ (key ++ w) ∷ rest → put_after_contents (key ++ w) (places_of_ways key ws ++ rest) ≡ places_of_ways key (put_after_contents w ws) ++ rest
put-ways key w [] rest h = h
put-ways key w (q ∷ ws) rest h =
    ap (λ b. cond b ((key ++ q) ∷ put_after_contents (key ++ w) (places_of_ways key ws ++ rest)) ((key ++ w) ∷ (key ++ q) ∷ (places_of_ways key ws ++ rest))) (below-same key w q)
    ∙ elim (is_below w q) as (λ b. cond b ((key ++ q) ∷ put_after_contents (key ++ w) (places_of_ways key ws ++ rest)) ((key ++ w) ∷ (key ++ q) ∷ (places_of_ways key ws ++ rest)) ≡ places_of_ways key (cond b (q ∷ put_after_contents w ws) (w ∷ q ∷ ws)) ++ rest) [
      | true ↦ ap (λ (ps : List Key). (key ++ q) ∷ ps) (put-ways key w ws rest h)
      | false ↦ refl
    ]

append-nil : (ps : List Key) → ps ++ [] ≡ ps
append-nil [] = refl
append-nil (p ∷ ps) = ap (λ (t : List Key). p ∷ t) (append-nil ps)

-- the contents of a directory are its contents by the rows from there
pub contents-from : (key : Key) (es : Rows) → contents key es ≡ places_of_ways key (contents [] (subtree_rows key es))
contents-from key [] = refl
contents-from key (e ∷ es) =
    let next = contents-from key es in
    elim (key_suffix key e.0) as (λ o. key_suffix key e.0 ≡ o → cond (has_names o) (put_after_contents e.0 (contents key es)) (contents key es) ≡ places_of_ways key (contents [] (with_way o e.1 (subtree_rows key es)))) [
      | None ↦ λ p. next
      | Some w ↦ λ p.
          elim (has_names (Some w)) as (λ b. cond b (put_after_contents e.0 (contents key es)) (contents key es) ≡ places_of_ways key (cond b (put_after_contents w (contents [] (subtree_rows key es))) (contents [] (subtree_rows key es)))) [
            | true ↦
                ap (λ (q : Key). put_after_contents q (contents key es)) (after-exact key e.0 w p) ∙ ap (put_after_contents (key ++ w)) (next ∙ sym (append-nil (places_of_ways key (contents [] (subtree_rows key es)))))
                ∙ put-ways key w (contents [] (subtree_rows key es)) [] refl ∙ append-nil (places_of_ways key (put_after_contents w (contents [] (subtree_rows key es))))
            | false ↦ next
          ]
    ] refl

-- the rows of one object, followed by rows none of which is below an object in it
inner : (n : List ℕ) (es rest : Rows) → T (below_all place_cmp [] es) → ((p : Key) → put_after_contents (n ∷ p) (contents [] rest) ≡ (n ∷ p) ∷ contents [] rest)
    → contents [] (rows_under_name n es ++ rest) ≡ places_of_ways (n ∷ []) (contents [] es) ++ contents [] rest
inner n [] rest low h = refl
inner n (([], v) ∷ es) rest low h = absurd low
inner n ((m ∷ ms, v) ∷ es) rest low h =
    ap (put_after_contents (n ∷ m ∷ ms)) (inner n es rest low h) ∙ put-ways (n ∷ []) (m ∷ ms) (contents [] es) (contents [] rest) (h (m ∷ ms))

-- none of them is the place itself
abbrev AllNamed : List Key → Type 0
AllNamed [] = Unit {0}
AllNamed (q ∷ qs) = (is_root q ≡ false) × AllNamed qs

put-named : (m : List ℕ) (ms : Key) (qs : List Key) → AllNamed qs → AllNamed (put_after_contents (m ∷ ms) qs)
put-named m ms [] h = (refl, tt)
put-named m ms (q ∷ qs) h =
    elim (is_below (m ∷ ms) q) as (λ b. AllNamed (cond b (q ∷ put_after_contents (m ∷ ms) qs) ((m ∷ ms) ∷ q ∷ qs))) [
      | true ↦ (h.0, put-named m ms qs h.1)
      | false ↦ (refl, h)
    ]

all-named : (es : Rows) → AllNamed (contents [] es)
all-named [] = tt
all-named (([], v) ∷ es) = all-named es
all-named ((m ∷ ms, v) ∷ es) = put-named m ms (contents [] es) (all-named es)

-- an object comes after all that is in it
put-last : (n : List ℕ) (qs rest : List Key) → AllNamed qs → put_after_contents (n ∷ []) rest ≡ (n ∷ []) ∷ rest → put_after_contents (n ∷ []) (places_of_ways (n ∷ []) qs ++ rest) ≡ places_of_ways (n ∷ []) qs ++ (n ∷ []) ∷ rest
put-last n [] rest h t = t
put-last n ([] ∷ qs) rest h t = cc
put-last n ((m ∷ ms) ∷ qs) rest h t =
    ap (λ b. cond b ((n ∷ m ∷ ms) ∷ put_after_contents (n ∷ []) (places_of_ways (n ∷ []) qs ++ rest)) ((n ∷ []) ∷ (n ∷ m ∷ ms) ∷ (places_of_ways (n ∷ []) qs ++ rest))) (below-same (n ∷ []) [] (m ∷ ms))
    ∙ ap (λ (ps : List Key). (n ∷ m ∷ ms) ∷ ps) (put-last n qs rest h.1 t)

-- what is in an object of another name is not below this one
apart : (n m : List ℕ) (p q : Key) → name_cmp n m ≡ Less → is_below (n ∷ p) (m ∷ q) ≡ false
apart n m p q h = ap (λ o. has_names (cond (is_eq o) (key_suffix p q) None)) h

record HasEntry (rows : Rows) : Type 0 where
  entry : Entry
  is : find place_cmp [] rows ≡ Some entry

has_entry : (rows : Rows) → IsSome (find place_cmp [] rows) → HasEntry rows
has_entry rows h = of (find place_cmp [] rows) refl h
  where
    of : (o : Option Entry) → find place_cmp [] rows ≡ o → IsSome o → HasEntry rows
    of None e h = cc
    of (Some v) e h = record { entry = v; is = e }

one-kid : (k : Kid) (ks : Kids) → IsSubtree k.1 → ((p : Key) → put_after_contents (k.0 ∷ p) (contents [] (flatten ks)) ≡ (k.0 ∷ p) ∷ contents [] (flatten ks))
    → contents [] (flatten (k ∷ ks)) ≡ places_of_ways (k.0 ∷ []) (contents [] k.1) ++ (k.0 ∷ []) ∷ contents [] (flatten ks)
one-kid k ks s next =
    let own : HasEntry k.1 = has_entry k.1 s.top in
    let t : IsTop own.entry k.1 = is_top own.entry k.1 own.is (holds _ s.sorted) in
    ap (λ (r : Rows). contents [] (rows_under_name k.0 r ++ flatten ks)) t.is
    ∙ ap (put_after_contents (k.0 ∷ [])) (inner k.0 t.rest (flatten ks) t.low next) ∙ put-last k.0 (contents [] t.rest) (contents [] (flatten ks)) (all-named t.rest) (next [])
    ∙ ap (λ (r : Rows). places_of_ways (k.0 ∷ []) (contents [] r) ++ (k.0 ∷ []) ∷ contents [] (flatten ks)) (sym t.is)

head : (n m : List ℕ) (p : Key) (qs rest : List Key) → name_cmp n m ≡ Less → put_after_contents (n ∷ p) (places_of_ways (m ∷ []) qs ++ (m ∷ []) ∷ rest) ≡ (n ∷ p) ∷ (places_of_ways (m ∷ []) qs ++ (m ∷ []) ∷ rest)
head n m p [] rest h = ap (λ b. cond b ((m ∷ []) ∷ put_after_contents (n ∷ p) rest) ((n ∷ p) ∷ (m ∷ []) ∷ rest)) (apart n m p [] h)
head n m p (q ∷ qs) rest h =
    ap (λ b. cond b ((m ∷ q) ∷ put_after_contents (n ∷ p) (places_of_ways (m ∷ []) qs ++ (m ∷ []) ∷ rest)) ((n ∷ p) ∷ (m ∷ q) ∷ (places_of_ways (m ∷ []) qs ++ (m ∷ []) ∷ rest))) (apart n m p q h)

begins : (n : List ℕ) (p : Key) (ks : Kids) → T (below_all name_cmp n ks) → T (is_sorted name_cmp ks) → AllSubtrees ks → put_after_contents (n ∷ p) (contents [] (flatten ks)) ≡ (n ∷ p) ∷ contents [] (flatten ks)
begins n p [] low s a = refl
begins n p (k ∷ ks) low s a =
    let this = one-kid k ks a.0 (λ q. begins k.0 q ks (first _ _ s) (second _ _ s) a.1) in
    ap (put_after_contents (n ∷ p)) this ∙ head n k.0 p (contents [] k.1) (contents [] (flatten ks)) (less _ (first _ _ low)) ∙ ap (λ (qs : List Key). (n ∷ p) ∷ qs) (sym this)

kid-contents : (k : Kid) (ks : Kids) → T (is_sorted name_cmp (k ∷ ks)) → AllSubtrees (k ∷ ks) → contents [] (flatten (k ∷ ks)) ≡ places_of_ways (k.0 ∷ []) (contents [] k.1) ++ (k.0 ∷ []) ∷ contents [] (flatten ks)
kid-contents k ks s a = one-kid k ks a.0 (λ q. begins k.0 q ks (first _ _ s) (second _ _ s) a.1)

ways-append : (key : Key) (a b : List Key) → places_of_ways key (a ++ b) ≡ places_of_ways key a ++ places_of_ways key b
ways-append key [] b = refl
ways-append key (q ∷ a) b = ap (λ (ps : List Key). (key ++ q) ∷ ps) (ways-append key a b)

ways-under : (key : Key) (n : List ℕ) (qs : List Key) → places_of_ways key (places_of_ways (n ∷ []) qs) ≡ places_of_ways (key ++ n ∷ []) qs
ways-under key n [] = refl
ways-under key n (q ∷ qs) = ap (λ (p : Key). p ∷ places_of_ways key (places_of_ways (n ∷ []) qs)) (sym (append_assoc key (n ∷ []) q)) ∙ ap (λ (ps : List Key). ((key ++ n ∷ []) ++ q) ∷ ps) (ways-under key n qs)

sorted-drop : (ks : Kids) (i : ℕ) → T (is_sorted name_cmp ks) → T (is_sorted name_cmp (drop i ks))
sorted-drop ks zero s = s
sorted-drop [] (suc i) s = tt
sorted-drop (k ∷ ks) (suc i) s = sorted-drop ks i (second _ _ s)

all-drop : (ks : Kids) (i : ℕ) → AllSubtrees ks → AllSubtrees (drop i ks)
all-drop ks zero a = a
all-drop [] (suc i) a = tt
all-drop (k ∷ ks) (suc i) a = all-drop ks i a.1

-- one more object of a directory
pub gone_through : (key at : Key) (ks : Kids) (i : ℕ) (k : Kid) (before deep after : List Key) → i < length ks → k ≡ slice_index_or ks i k → AreKids ks
    → at ≡ key ++ k.0 ∷ [] → deep ≡ before ++ places_of_ways at (contents [] k.1) → after ≡ deep ++ at ∷ []
    → after ++ places_of_ways key (contents [] (flatten (drop (i + 1) ks))) ≡ before ++ places_of_ways key (contents [] (flatten (drop i ks)))
gone_through key at ks i k before deep after h is are place below last =
    let later = drop (i + 1) ks in
    let rest = places_of_ways key (contents [] (flatten later)) in
    let d : drop i ks ≡ k ∷ later = rw add-one (drop-cons ks i k h) ∙ ap (λ (x : Kid). x ∷ later) (sym is) in
    let s : T (is_sorted name_cmp (k ∷ later)) = subst (λ (x : Kids). T (is_sorted name_cmp x)) d (sorted-drop ks i (holds _ are.sorted)) in
    let a : AllSubtrees (k ∷ later) = subst AllSubtrees d (all-drop ks i are.all) in
    let inside = places_of_ways at (contents [] k.1) in
    let whole : places_of_ways key (contents [] (flatten (drop i ks))) ≡ inside ++ at ∷ rest =
    ap (λ (x : Kids). places_of_ways key (contents [] (flatten x))) d ∙ ap (places_of_ways key) (kid-contents k later s a)
    ∙ ways-append key (places_of_ways (k.0 ∷ []) (contents [] k.1)) ((k.0 ∷ []) ∷ contents [] (flatten later))
    ∙ ap (λ (ps : List Key). ps ++ (key ++ k.0 ∷ []) ∷ rest) (ways-under key k.0 (contents [] k.1))
    ∙ ap (λ (p : Key). places_of_ways p (contents [] k.1) ++ p ∷ rest) (sym place) in
    ap (λ (ps : List Key). ps ++ rest) (last ∙ ap (λ (ps : List Key). ps ++ at ∷ []) below)
    ∙ append_assoc (before ++ inside) (at ∷ []) rest ∙ append_assoc before inside (at ∷ rest) ∙ ap (λ (ps : List Key). before ++ ps) (sym whole)

-- a directory's own row is not in its contents
pub contents-in : (entry : Entry) (ks : Kids) → contents [] (rows_of entry ks) ≡ contents [] (flatten ks)
contents-in entry ks = refl
