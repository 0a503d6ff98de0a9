-- filters and searches of lists, and what a binary search finds in them
use Rattle.std.proofs.Common.{ℕ, zero, suc, ◌≡◌, ◌∙◌, List, [], ◌∷◌, Bool, true, false, cond, ◌&&◌, Option, Some, None, length, map, take, drop, leb, nat_lt, Bor, refl, ap, sym, arith}
use Rattle.std.specs.List.{filter, find, slice_get, AllWithin}
use Rattle.std.specs.List.Sorted.{IsPartitionPoint}
use Rattle.std.specs.Option.{option_copied, option_map}
use Rattle.std.specs.Slice.{IsItemAt}
use Rattle.std.proofs.lemmas.Option.{slice_get_past, slice_get-get_or}
use Rattle.std.proofs.lemmas.Bool.Decides.{nat_tests}

-- a search among the elements that pass a test
pub find-filter : {X : Type 0} (p q : X → Bool) (xs : List X) → find p (filter q xs) ≡ find (λ x. q x && p x) xs
find-filter p q [] = refl
find-filter p q (x ∷ xs) = by_test (q x) (find-filter p q xs)
  where
    by_test : (b : Bool) → find p (filter q xs) ≡ find (λ x. q x && p x) xs → find p (cond b (x ∷ filter q xs) (filter q xs)) ≡ cond (b && p x) (Some x) (find (λ x. q x && p x) xs)
    by_test true e = ap (cond (p x) (Some x)) e
    by_test false e = e

-- a search among the images of the elements
pub find-map : {X Y : Type 0} (p : Y → Bool) (f : X → Y) (xs : List X) → find p (map f xs) ≡ option_map f (find (λ x. p (f x)) xs)
find-map p f [] = refl
find-map p f (x ∷ xs) = by_test (p (f x)) (find-map p f xs)
  where
    by_test : (b : Bool) → find p (map f xs) ≡ option_map f (find (λ x. p (f x)) xs) → cond b (Some (f x)) (find p (map f xs)) ≡ option_map f (cond b (Some x) (find (λ x. p (f x)) xs))
    by_test true e = refl
    by_test false e = e

-- tests that give the same for each element
pub find-alike : {X : Type 0} (p q : X → Bool) → ((x : X) → p x ≡ q x) → (xs : List X) → find p xs ≡ find q xs
find-alike p q h [] = refl
find-alike p q h (x ∷ xs) = rw (h x, find-alike p q h xs) refl

pub filter-alike : {X : Type 0} (p q : X → Bool) → ((x : X) → p x ≡ q x) → (xs : List X) → filter p xs ≡ filter q xs
filter-alike p q h [] = refl
filter-alike p q h (x ∷ xs) = rw (h x, filter-alike p q h xs) refl

-- a fact of the elements, one element on
low_rest : {X : Type 0} (P : X → Type 0) (x : X) (xs : List X) (k : ℕ) → AllWithin P (x ∷ xs) 0 (suc k) → AllWithin P xs 0 k
low_rest P x xs k h = λ i d a b. h (suc i) d (omega arith) (omega arith)

high_rest : {X : Type 0} (P : X → Type 0) (x : X) (xs : List X) (k : ℕ) → AllWithin P (x ∷ xs) (suc k) (length (x ∷ xs)) → AllWithin P xs k (length xs)
high_rest P x xs k h = λ i d a b. h (suc i) d (omega arith) (omega arith)

high_all : {X : Type 0} (P : X → Type 0) (x : X) (xs : List X) → AllWithin P (x ∷ xs) 0 (length (x ∷ xs)) → AllWithin P xs 0 (length xs)
high_all P x xs h = λ i d a b. h (suc i) d (omega arith) (omega arith)

-- the first that passes is where the prefix ends of which none does
pub found_at : {X : Type 0} (p : X → Bool) (xs : List X) (k : ℕ)
    → AllWithin (λ x. p x ≡ false) xs 0 k → AllWithin (λ x. p x ≡ true) xs k (length xs) → slice_get xs k ≡ find p xs
found_at p [] k low high = refl
found_at p (x ∷ xs) zero low high = let first : p x ≡ true = high 0 x (omega arith) (omega arith) in rw first refl
found_at p (x ∷ xs) (suc k) low high =
    let first : p x ≡ false = low 0 x (omega arith) (omega arith) in
    rw first (found_at p xs k (low_rest (λ y. p y ≡ false) x xs k low) (high_rest (λ y. p y ≡ true) x xs k high))

-- if numbers do not fall, the first above a limit comes after all up to it
pub first_above : {X : Type 0} (n : X → ℕ) (xs : List X) (limit k : ℕ)
    → IsPartitionPoint (λ x. leb (n x) limit ≡ true) (λ x. leb (n x) limit ≡ false) xs k → slice_get xs k ≡ find (λ x. nat_lt limit (n x)) xs
first_above n xs limit k point =
    found_at (λ x. nat_lt limit (n x)) xs k
    (λ i d a b. let h = point.0 i d a b in grind (arith, nat_tests))
    (λ i d a b. let h = point.1 i d a b in grind (arith, nat_tests))

-- none passes
filter-none : {X : Type 0} (p : X → Bool) (xs : List X) → AllWithin (λ x. p x ≡ false) xs 0 (length xs) → filter p xs ≡ []
filter-none p [] h = refl
filter-none p (x ∷ xs) h = let first : p x ≡ false = h 0 x (omega arith) (omega arith) in rw first (filter-none p xs (high_all (λ y. p y ≡ false) x xs h))

-- the elements that pass, after a prefix of which none does
pub filter-after : {X : Type 0} (p : X → Bool) (xs : List X) (k : ℕ) → AllWithin (λ x. p x ≡ false) xs 0 k → filter p (drop k xs) ≡ filter p xs
filter-after p xs zero h = refl
filter-after p [] (suc k) h = refl
filter-after p (x ∷ xs) (suc k) h = let first : p x ≡ false = h 0 x (omega arith) (omega arith) in rw first (filter-after p xs k (low_rest (λ y. p y ≡ false) x xs k h))

-- the elements that pass are a prefix
pub filter-front : {X : Type 0} (p : X → Bool) (xs : List X) (k : ℕ)
    → AllWithin (λ x. p x ≡ true) xs 0 k → AllWithin (λ x. p x ≡ false) xs k (length xs) → take k xs ≡ filter p xs
filter-front p [] zero low high = refl
filter-front p [] (suc k) low high = refl
filter-front p (x ∷ xs) zero low high = sym (filter-none p (x ∷ xs) high)
filter-front p (x ∷ xs) (suc k) low high =
    let first : p x ≡ true = low 0 x (omega arith) (omega arith) in
    rw first (ap (λ ys. x ∷ ys) (filter-front p xs k (low_rest (λ y. p y ≡ true) x xs k low) (high_rest (λ y. p y ≡ false) x xs k high)))

-- what a lookup borrows is the element at the place
pub lent : {X : Type 0} (xs : List X) (i : ℕ) (r : Option (Bor X)) → IsItemAt xs i r → option_copied r ≡ slice_get xs i
lent xs i None h = let test = h.0 in sym (slice_get_past xs i (grind (arith, nat_tests)))
lent xs i (Some x) h = let test = h.0 in ap Some h.1 ∙ sym (slice_get-get_or xs i x.now (grind (arith, nat_tests)))
