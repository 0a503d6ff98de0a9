-- a search over the numbers of lines, from line to line
use Rattle.std.proofs.Common.{ℕ, zero, suc, ◌+◌, ◌-◌, ◌<◌, ◌≤◌, ◌≡◌, List, [], ◌∷◌, Bool, true, false, cond, Some, None, length, get_or, refl, ap, arith, add-one}
use Rattle.std.specs.List.{find, range_with_len}
use Rattle.std.specs.Option.{IfSome}
use Rattle.std.proofs.lemmas.Option.{IfSome_then, slice_get-get_or}
use Rattle.ados_script.specs.Lines.{line_of, numbers_below}

-- the first of the lines below is the next line
pub below-more : {A : Type 0} (lines : List A) (i : ℕ) → i < length lines → numbers_below lines i ≡ (i + 1) ∷ numbers_below lines (i + 1)
below-more lines i h =
    let left : length lines - i ≡ suc (length lines - (i + 1)) = omega arith in
    ap (range_with_len (i + 1)) left

pub find-here : {A : Type 0} (test : ℕ → Bool) (lines : List A) (i : ℕ) → i < length lines → test (i + 1) ≡ true
    → Some (i + 1) ≡ find test (numbers_below lines i)
find-here test lines i h t = rw (below-more lines i h, t) refl

pub find-further : {A : Type 0} (test : ℕ → Bool) (lines : List A) (i : ℕ) → i < length lines → test (i + 1) ≡ false
    → find test (numbers_below lines i) ≡ find test (numbers_below lines (i + 1))
find-further test lines i h t = rw (below-more lines i h, t) refl

-- below the last line there is none
pub below-past : {A : Type 0} (lines : List A) (i : ℕ) → length lines ≤ i → numbers_below lines i ≡ []
below-past lines i h =
    let none : length lines - i ≡ 0 = omega arith in
    rw none refl

pub find-past : {A : Type 0} (test : ℕ → Bool) (lines : List A) (i : ℕ) → length lines ≤ i → find test (numbers_below lines i) ≡ None
find-past test lines i h =
    let none : length lines - i ≡ 0 = omega arith in
    rw none refl

-- what is found is below, at most the last line
pub find-within : (test : ℕ → Bool) (a n : ℕ) → IfSome (find test (range_with_len a n)) (λ j. (a ≤ j) × (j < a + n))
find-within test a zero = tt
find-within test a (suc n) = by_test (test a) (IfSome_then (find test (range_with_len (a + 1) n)) (find-within test (a + 1) n) (λ j h. (omega arith, omega arith)))
  where
    by_test : (b : Bool) → IfSome (find test (range_with_len (a + 1) n)) (λ j. (a ≤ j) × (j < a + suc n)) → IfSome (cond b (Some a) (find test (range_with_len (a + 1) n))) (λ j. (a ≤ j) × (j < a + suc n))
    by_test true h = (omega arith, omega arith)
    by_test false h = h

pub found_within : {A : Type 0} (test : ℕ → Bool) (lines : List A) (i : ℕ) → IfSome (find test (numbers_below lines i)) (λ j. (i < j) × (j ≤ length lines))
found_within test lines i = IfSome_then (find test (numbers_below lines i)) (find-within test (i + 1) (length lines - i)) (λ j h. (omega arith, omega arith))

-- the line at a place, counted from 0
pub line_of-place : {A : Type 0} (lines : List A) (i : ℕ) (d : A) → i < length lines → line_of lines (i + 1) ≡ Some (get_or lines i d)
line_of-place lines i d h = rw add-one (slice_get-get_or lines i d h)
