-- The first number of a range of which something is true.
use Rattle.std.proofs.Common.{◌≡◌, ℕ, zero, suc, ◌+◌, ◌-◌, ◌<◌, ◌≤◌, Option, Some, None, Bool, true, false, arith, refl, ap, inl, inr}
use Rattle.std.specs.List.{find, range_with_len}
use Rattle.std.proofs.lemmas.Bool.{cases_Bool, cases_eq, cases_lt}
use Rattle.ados_world.specs.Due.{first_number}

-- it is true of no number from one on, and below another
abbrev pub IsNowhere : (ℕ → Bool) → ℕ → ℕ → Type 0
IsNowhere p a m = (k : ℕ) → a ≤ k → k < m → p k ≡ false

-- it is true of a number first, of those from one on, and below another
pub record IsFirst (p : ℕ → Bool) (a m k : ℕ) : Type 0 where
  pub low : a ≤ k
  pub high : k < m
  pub here : p k ≡ true
  pub before : IsNowhere p a k

none-in : (p : ℕ → Bool) (n a : ℕ) → IsNowhere p a (a + n) → find p (range_with_len a n) ≡ None
none-in p zero a none = refl
none-in p (suc n) a none =
    let off : p a ≡ false = none a (omega arith) (omega arith) in
    rw off (none-in p n (a + 1) (λ k low high. none k (omega (arith, low)) (omega (arith, high))))

some-in : (p : ℕ → Bool) (n a k : ℕ) → IsFirst p a (a + n) k → find p (range_with_len a n) ≡ Some k
some-in p zero a k first = absurd (let low = first.low in let high = first.high in omega (arith, low, high))
some-in p (suc n) a k first =
    elim (cases_eq a k) [
      | inl same ↦ (let on : p a ≡ true = rw same first.here in rw on (ap (λ x. Some x) same))
      | inr other ↦ (let low = first.low in let high = first.high in
          let off : p a ≡ false = first.before a (omega arith) (omega (arith, low, other)) in
          rw off (some-in p n (a + 1) k (record {
            low = omega (arith, low, other);
            high = omega (arith, high);
            here = first.here;
            before = λ j from upto. first.before j (omega (arith, from)) upto;
          })))
    ]

none-of : (p : ℕ → Bool) (n a : ℕ) → find p (range_with_len a n) ≡ None → IsNowhere p a (a + n)
none-of p zero a e k low high = absurd (omega (arith, low, high))
none-of p (suc n) a e k low high =
    elim (cases_Bool (p a)) [
      | inl on ↦ (let x = rw on at e in cc)
      | inr off ↦ elim (cases_eq a k) [
        | inl same ↦ rw (← same) off
        | inr other ↦ none-of p n (a + 1) (rw off at e) k (omega (arith, low, other)) (omega (arith, high))
      ]
    ]

some-of : (p : ℕ → Bool) (n a k : ℕ) → find p (range_with_len a n) ≡ Some k → IsFirst p a (a + n) k
some-of p zero a k e = cc
some-of p (suc n) a k e =
    elim (cases_Bool (p a)) [
      | inl on ↦ (let same : a ≡ k = (let x = rw on at e in cc) in
          record { low = omega (arith, same); high = omega (arith, same); here = rw (← same) on; before = λ j low high. absurd (omega (arith, low, high, same)) })
      | inr off ↦ (let first = some-of p n (a + 1) k (rw off at e) in
          let low = first.low in let high = first.high in
          record {
            low = omega (arith, low);
            high = omega (arith, high);
            here = first.here;
            before = λ j from upto. elim (cases_eq a j) [
              | inl same ↦ rw (← same) off
              | inr other ↦ first.before j (omega (arith, from, other)) upto
            ];
          })
    ]

-- the same up to a number
pub is-none : (p : ℕ → Bool) (a m : ℕ) → IsNowhere p a m → find p (range_with_len a (m - a)) ≡ None
is-none p a m none = none-in p (m - a) a (λ k low high. none k low (omega (arith, low, high)))

pub is-some : (p : ℕ → Bool) (a m k : ℕ) → IsFirst p a m k → find p (range_with_len a (m - a)) ≡ Some k
is-some p a m k first =
    let low = first.low in let high = first.high in
    some-in p (m - a) a k (record { low = low; high = omega (arith, low, high); here = first.here; before = first.before })

pub none-is : (p : ℕ → Bool) (a m : ℕ) → find p (range_with_len a (m - a)) ≡ None → IsNowhere p a m
none-is p a m e k low high = none-of p (m - a) a e k low (omega (arith, low, high))

pub some-is : (p : ℕ → Bool) (a m k : ℕ) → a ≤ m → find p (range_with_len a (m - a)) ≡ Some k → IsFirst p a m k
some-is p a m k h e =
    let first = some-of p (m - a) a k e in
    let high = first.high in
    record { low = first.low; high = omega (arith, high, h); here = first.here; before = first.before }

-- what is the same up to 20 is first at the same number
same-in : (p q : ℕ → Bool) (n a : ℕ) → ((k : ℕ) → a ≤ k → k < a + n → p k ≡ q k) → find p (range_with_len a n) ≡ find q (range_with_len a n)
same-in p q zero a same = refl
same-in p q (suc n) a same =
    let here : p a ≡ q a = same a (omega arith) (omega arith) in
    let later = same-in p q n (a + 1) (λ k low high. same k (omega (arith, low)) (omega (arith, high))) in
    rw (here, later) refl

pub first-same : (p q : ℕ → Bool) (a : ℕ) → ((k : ℕ) → k ≤ 20 → p k ≡ q k) → first_number a p ≡ first_number a q
first-same p q a same = same-in p q (21 - a) a (λ k low high. same k (omega (arith, low, high)))

-- each of which the one is true is one of which the other is
off-within : (p q : ℕ → Bool) (k : ℕ) → (p k ≡ true → q k ≡ true) → q k ≡ false → p k ≡ false
off-within p q k within off =
    elim (cases_Bool (p k)) [
      | inl on ↦ (let there = within on in cc)
      | inr other ↦ other
    ]

-- so there is none if there is none of the others; the first of these is the first; or it is the first of those after it
pub first-nowhere : (p q : ℕ → Bool) (a : ℕ) → ((k : ℕ) → p k ≡ true → q k ≡ true) → first_number a q ≡ None → first_number a p ≡ None
first-nowhere p q a within e = is-none p a 21 (λ k low high. off-within p q k (within k) (none-is q a 21 e k low high))

pub first-here : (p q : ℕ → Bool) (a k : ℕ) → a ≤ 21 → ((k : ℕ) → p k ≡ true → q k ≡ true) → first_number a q ≡ Some k → p k ≡ true → first_number a p ≡ Some k
first-here p q a k h within e on =
    let first = some-is q a 21 k h e in
    is-some p a 21 k (record { low = first.low; high = first.high; here = on; before = λ j low high. off-within p q j (within j) (first.before j low high) })

before-later : (p q : ℕ → Bool) (a k m : ℕ) → a ≤ 21 → ((k : ℕ) → p k ≡ true → q k ≡ true) → first_number a q ≡ Some k → p k ≡ false
    → IsNowhere p (k + 1) m → IsNowhere p a m
before-later p q a k m h within e off none j low high =
    let first = some-is q a 21 k h e in
    elim (cases_eq j k) [
      | inl same ↦ rw same off
      | inr other ↦ elim (cases_lt j k) [
        | inl less ↦ off-within p q j (within j) (first.before j low less)
        | inr more ↦ none j (omega (arith, more, other)) high
      ]
    ]

later : (p q : ℕ → Bool) (a k : ℕ) (r : Option ℕ) → a ≤ 21 → ((k : ℕ) → p k ≡ true → q k ≡ true) → first_number a q ≡ Some k → p k ≡ false
    → first_number (k + 1) p ≡ r → first_number a p ≡ r
later p q a k None h within e off e_later =
    is-none p a 21 (before-later p q a k 21 h within e off (none-is p (k + 1) 21 e_later))
later p q a k (Some m) h within e off e_later =
    let q_first = some-is q a 21 k h e in
    let low = q_first.low in
    let high = q_first.high in
    let first = some-is p (k + 1) 21 m (omega (arith, high)) e_later in
    let above = first.low in
    is-some p a 21 m (record { low = omega (arith, low, above); high = first.high; here = first.here; before = before-later p q a k m h within e off first.before })

pub first-later : (p q : ℕ → Bool) (a k : ℕ) → a ≤ 21 → ((k : ℕ) → p k ≡ true → q k ≡ true) → first_number a q ≡ Some k → p k ≡ false
    → first_number a p ≡ first_number (k + 1) p
first-later p q a k h within e off = later p q a k (first_number (k + 1) p) h within e off refl
