-- What the lists of a directory hold: each place that passes the test, in order.
use Rattle.std.proofs.Common.{◌≡◌, ℕ, Bool, true, false, cond, not, ◌&&◌, T, List, [], ◌∷◌, Option, Some, None, IsSome, IsTrue, refl, sym, ap, ◌∙◌, subst, inl, inr, arith}
use Rattle.std.specs.Prelude.{◌↔◌}
use Rattle.std.specs.List.{Contains, AllByRecursion}
use Rattle.std.specs.List.Sorted.{IsStrictlySortedBy}
use Rattle.std.proofs.lemmas.Bool.Decides.{nat_tests}
use Rattle.std.specs.declared.cmp.Ordering.TheVariants.{Less}
use Rattle.std.specs.Ordering.{ordering_reverse, is_eq, is_lt}
use Rattle.std.specs.FinMap as map
use Rattle.std.specs.FinMap.{find, is_sorted, get-entries, entries_sorted}
use Rattle.std.specs.FinMap.Entries.{below_all}
use Rattle.ados_text.specs.Text.{fold_of, folded_text}
use Rattle.ados_ram.specs.declared.entries.Entry.{Entry}
use Rattle.ados_ram.specs.Place.{Key, key_of, place_cmp, place_cmp_total, is_same_key, is_below, is_child}
use Rattle.ados_ram.specs.Entry.{is_directory}
use Rattle.ados_ram.specs.Files.{Files, Rows, is_some_file}
use Rattle.ados_ram.specs.Contents.{children, contents, is_within, directory_files, contents_cmp, ListsJust}
use Rattle.ados_ram.proofs.FilesLemmas.{same, clash}
use Rattle.ados_ram.proofs.ContentsLemmas.{here, there, cases, none, all-at, both-first, both-second, less, self, contents-sorted, contents-only, contents-told}

-- the places of the rows that pass a test
abbrev places_with : (Key → Entry → Bool) → Rows → List Key
places_with test [] = []
places_with test (e ∷ es) = cond (test e.0 e.1) (e.0 ∷ places_with test es) (places_with test es)

abbrev has_there : (Key → Entry → Bool) → Key → Option Entry → Bool
has_there test q None = false
has_there test q (Some e) = test q e

with-after : (test : Key → Entry → Bool) (p : Key) (es : Rows) → T (below_all place_cmp p es) → AllByRecursion (λ q. place_cmp p q ≡ Less) (places_with test es)
with-after test p [] h = tt
with-after test p (e ∷ es) h =
    let rest = with-after test p es (both-second (is_lt (place_cmp p e.0)) (below_all place_cmp p es) h) in
    elim (test e.0 e.1) as (λ b. AllByRecursion (λ q. place_cmp p q ≡ Less) (cond b (e.0 ∷ places_with test es) (places_with test es))) [
      | true ↦ (less (place_cmp p e.0) (both-first (is_lt (place_cmp p e.0)) (below_all place_cmp p es) h), rest)
      | false ↦ rest
    ]

with-sorted : (test : Key → Entry → Bool) (es : Rows) → T (is_sorted place_cmp es) → IsStrictlySortedBy place_cmp (places_with test es)
unfolding IsStrictlySortedBy
with-sorted test [] h = tt
with-sorted test (e ∷ es) h =
    let rest = with-sorted test es (both-second (below_all place_cmp e.0 es) (is_sorted place_cmp es) h) in
    elim (test e.0 e.1) as (λ b. IsStrictlySortedBy place_cmp (cond b (e.0 ∷ places_with test es) (places_with test es))) [
      | true ↦ (with-after test e.0 es (both-first (below_all place_cmp e.0 es) (is_sorted place_cmp es) h), rest)
      | false ↦ rest
    ]

with-only : (test : Key → Entry → Bool) (q : Key) (es : Rows) → T (is_sorted place_cmp es) → Contains (places_with test es) q → has_there test q (find place_cmp q es) ≡ true
with-only test q [] h c = none q c
with-only test q (e ∷ es) h c =
    elim (test e.0 e.1) as (λ b. test e.0 e.1 ≡ b → Contains (cond b (e.0 ∷ places_with test es) (places_with test es)) q → has_there test q (find place_cmp q (e ∷ es)) ≡ true) [
      | true ↦ λ t g. elim (cases e.0 q (places_with test es) g) [
        | inl k ↦ subst (λ (p : Key). has_there test p (find place_cmp p (e ∷ es)) ≡ true) k (ap (λ b. has_there test e.0 (cond b (Some e.1) (find place_cmp e.0 es))) (self e.0) ∙ t)
        | inr k ↦ later k (with-only test q es (both-second (below_all place_cmp e.0 es) (is_sorted place_cmp es) h) k)
      ]
      | false ↦ λ t g. later g (with-only test q es (both-second (below_all place_cmp e.0 es) (is_sorted place_cmp es) h) g)
    ] refl c
  where
    later : Contains (places_with test es) q → has_there test q (find place_cmp q es) ≡ true → has_there test q (find place_cmp q (e ∷ es)) ≡ true
    later k rest =
        let less_than : place_cmp e.0 q ≡ Less = all-at (λ p. place_cmp e.0 p ≡ Less) (places_with test es) q (with-after test e.0 es (both-first (below_all place_cmp e.0 es) (is_sorted place_cmp es) h)) k in
        let other : is_same_key q e.0 ≡ false = ap is_eq (place_cmp_total.antisymm q e.0 ∙ ap ordering_reverse less_than) in
        ap (λ b. has_there test q (cond b (Some e.1) (find place_cmp q es))) other ∙ rest

with-told : (test : Key → Entry → Bool) (q : Key) (es : Rows) → has_there test q (find place_cmp q es) ≡ true → Contains (places_with test es) q
with-told test q [] h = clash h
with-told test q (e ∷ es) h =
    elim (is_same_key q e.0) as (λ b. is_same_key q e.0 ≡ b → has_there test q (cond b (Some e.1) (find place_cmp q es)) ≡ true → Contains (places_with test (e ∷ es)) q) [
      | true ↦ λ t g.
          let k : q ≡ e.0 = same q e.0 t in
          subst (λ (b : Bool). Contains (cond b (e.0 ∷ places_with test es) (places_with test es)) q) (sym (subst (λ (p : Key). test p e.1 ≡ true) k g)) (subst (Contains (e.0 ∷ places_with test es)) (sym k) (here e.0 (places_with test es)))
      | false ↦ λ t g.
          let rest = with-told test q es g in
          elim (test e.0 e.1) as (λ b. Contains (cond b (e.0 ∷ places_with test es) (places_with test es)) q) [ true ↦ there e.0 q (places_with test es) rest | false ↦ rest ]
    ] refl h

abbrev in_directory : Key → Key → Entry → Bool
in_directory d q e = is_child d q

abbrev is_file_in : Bool → Key → Key → Entry → Bool
is_file_in all d q e = is_within all d q && not (is_directory e)

children-with : (d : Key) (es : Rows) → children d es ≡ places_with (in_directory d) es
children-with d [] = refl
children-with d (e ∷ es) = ap (λ ps. cond (is_child d e.0) (e.0 ∷ ps) ps) (children-with d es)

files-with : (all : Bool) (d : Key) (es : Rows) → directory_files all d es ≡ places_with (is_file_in all d) es
files-with all d [] = refl
files-with all d (e ∷ es) = ap (λ ps. cond (is_within all d e.0 && not (is_directory e.1)) (e.0 ∷ ps) ps) (files-with all d es)

child-there : (d q : Key) (o : Option Entry) → has_there (in_directory d) q o ≡ true ↔ (IsSome o × IsTrue (is_child d q))
child-there d q None = (λ h. clash h, λ h. clash h.0)
child-there d q (Some e) = (λ h. (refl, h), λ h. h.1)

file-there : (all : Bool) (d q : Key) (o : Option Entry) → has_there (is_file_in all d) q o ≡ true ↔ (IsSome o × IsTrue (is_within all d q && is_some_file o))
file-there all d q None = (λ h. clash h, λ h. clash h.0)
file-there all d q (Some e) = (λ h. (refl, h), λ h. h.1)

-- the places in rows that pass a test are just those in the files that do
with-law : (files : Files) (tests : Key → Entry → Bool) (test : Key → Bool) → ((q : Key) → has_there tests q (map.get files q) ≡ true ↔ (IsSome (map.get files q) × IsTrue (test q))) → ListsJust files test place_cmp (places_with tests (map.entries files))
with-law files tests test h = record {
  just = λ q. (
    λ c. (h q).0 (ap (has_there tests q) (get-entries files q) ∙ with-only tests q (map.entries files) (entries_sorted files) c),
    λ g. with-told tests q (map.entries files) (sym (ap (has_there tests q) (get-entries files q)) ∙ (h q).1 g),
  );
  in_order = with-sorted tests (map.entries files) (entries_sorted files);
}

pub contents-law : (files : Files) (directory : Key) → ListsJust files (is_below directory) contents_cmp (contents directory (map.entries files))
contents-law files d = record {
  just = λ q. (
    λ c. let r = contents-only d q (map.entries files) c in (subst (λ (o : Option Entry). IsSome o) (sym (get-entries files q)) r.0, r.1),
    λ h. contents-told d q (map.entries files) (subst (λ (o : Option Entry). IsSome o) (get-entries files q) h.0) h.1,
  );
  in_order = contents-sorted d (map.entries files) (entries_sorted files);
}

pub children-law : (files : Files) (directory : Key) → ListsJust files (is_child directory) place_cmp (children directory (map.entries files))
children-law files d =
    subst (ListsJust files (is_child d) place_cmp) (sym (children-with d (map.entries files)))
    (with-law files (in_directory d) (is_child d) (λ q. child-there d q (map.get files q)))

pub files-law : (files : Files) (all : Bool) (directory : Key) → ListsJust files (λ place. is_within all directory place && is_some_file (map.get files place)) place_cmp (directory_files all directory (map.entries files))
files-law files all d =
    subst (ListsJust files (λ place. is_within all d place && is_some_file (map.get files place)) place_cmp) (sym (files-with all d (map.entries files)))
    (with-law files (is_file_in all d) (λ place. is_within all d place && is_some_file (map.get files place)) (λ q. file-there all d q (map.get files q)))

-- lists of places in lower case
fold-twice : (b : ℕ) → fold_of (fold_of b) ≡ fold_of b
fold-twice b = grind (arith, nat_tests)

folded-twice : (bytes : List ℕ) → folded_text (folded_text bytes) ≡ folded_text bytes
folded-twice [] = refl
folded-twice (c ∷ cs) = ap (λ d. d ∷ folded_text (folded_text cs)) (fold-twice c) ∙ ap (λ ds. fold_of c ∷ ds) (folded-twice cs)

pub key-twice : (place : Key) → key_of (key_of place) ≡ key_of place
key-twice [] = refl
key-twice (n ∷ ns) = ap (λ m. m ∷ key_of (key_of ns)) (folded-twice n) ∙ ap (λ ms. folded_text n ∷ ms) (key-twice ns)
