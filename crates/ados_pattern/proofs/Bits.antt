-- One bit of a word.
use Rattle.std.proofs.Common.{◌≡◌, ℕ, ◌-◌, ◌*◌, ◌/◌, ◌%◌, ◌^◌, ◌<◌, ◌≤◌, true, false, ◌&&◌, ◌||◌, ◌==◌, refl, sym, ◌∙◌, ap, arith, ◌⊎◌, inl, inr, max, min, bit_and, bit_or, nat_lt, nat_le}
use Rattle.std.specs.Int.{bit_at, bit_not, w64}
use Rattle.std.proofs.Math.Bool.{not}
use Rattle.std.proofs.lemmas.Grind.{common_steps}
use Rattle.std.proofs.lemmas.Nat.Bits.{bit_at-zero, bit_at-lt, bit_at_or, bit_at_and, bit_at_not, bit_at_set_same, bit_at_set_other, bit_at_ones, bit_at_ones_above, ones_shr, shr_and_one}
use Rattle.ados_pattern.specs.Table.{is_set}

pub zero-or-one : (a : ℕ) → a < 2 → (a ≡ 0) ⊎ (a ≡ 1)
zero-or-one a l = grind arith

pub or-test : (a b : ℕ) → a < 2 → b < 2 → (max a b == 1) ≡ ((a == 1) || (b == 1))
or-test a b l m = elim (zero-or-one a l) [
  | inl e ↦ elim (zero-or-one b m) [ inl f ↦ rw (e, f) refl | inr f ↦ rw (e, f) refl ]
  | inr e ↦ elim (zero-or-one b m) [ inl f ↦ rw (e, f) refl | inr f ↦ rw (e, f) refl ]
]

pub and-test : (a b : ℕ) → a < 2 → b < 2 → (min a b == 1) ≡ ((a == 1) && (b == 1))
and-test a b l m = elim (zero-or-one a l) [
  | inl e ↦ elim (zero-or-one b m) [ inl f ↦ rw (e, f) refl | inr f ↦ rw (e, f) refl ]
  | inr e ↦ elim (zero-or-one b m) [ inl f ↦ rw (e, f) refl | inr f ↦ rw (e, f) refl ]
]

pub not-test : (a : ℕ) → a < 2 → (1 - a == 1) ≡ not (a == 1)
not-test a l = elim (zero-or-one a l) [ inl e ↦ rw e refl | inr e ↦ rw e refl ]

pub set-zero : (b : ℕ) → is_set 0 b ≡ false
unfolding is_set
set-zero b = rw (bit_at-zero b) refl

pub set-or : (x y b : ℕ) → is_set (bit_or x y) b ≡ (is_set x b || is_set y b)
unfolding is_set
set-or x y b = ap (λ (n : ℕ). n == 1) (bit_at_or x y b) ∙ or-test (bit_at x b) (bit_at y b) (bit_at-lt x b) (bit_at-lt y b)

pub set-and : (x y b : ℕ) → is_set (bit_and x y) b ≡ (is_set x b && is_set y b)
unfolding is_set
set-and x y b = ap (λ (n : ℕ). n == 1) (bit_at_and x y b) ∙ and-test (bit_at x b) (bit_at y b) (bit_at-lt x b) (bit_at-lt y b)

pub set-not : (x b : ℕ) → x < 2 ^ 64 → b < 64 → is_set (bit_not w64 x) b ≡ not (is_set x b)
unfolding is_set
set-not x b l m = ap (λ (n : ℕ). n == 1) (bit_at_not w64 x b l m) ∙ not-test (bit_at x b) (bit_at-lt x b)

pub same-or-not : (a b : ℕ) → (a ≡ b) ⊎ (a ≡ b → ⊥)
same-or-not a b = grind arith

pub is-true : (a b : ℕ) → a ≡ b → (a == b) ≡ true
is-true a b e = grind (arith, common_steps)

pub is-false : (a b : ℕ) → (a ≡ b → ⊥) → (a == b) ≡ false
is-false a b e = grind (arith, common_steps)

pub lt-true : (a b : ℕ) → a < b → nat_lt a b ≡ true
lt-true a b e = grind (arith, common_steps)

pub lt-false : (a b : ℕ) → b ≤ a → nat_lt a b ≡ false
lt-false a b e = grind (arith, common_steps)

pub le-true : (a b : ℕ) → a ≤ b → nat_le a b ≡ true
le-true a b e = grind (arith, common_steps)

pub le-false : (a b : ℕ) → b < a → nat_le a b ≡ false
le-false a b e = grind (arith, common_steps)

pub below-or-not : (a b : ℕ) → (a < b) ⊎ (b ≤ a)
below-or-not a b = grind arith

-- the one bit of `1 << e`
pub set-single : (e b : ℕ) → e < 64 → is_set (1 * 2 ^ e % 2 ^ 64) b ≡ (e == b)
unfolding is_set
set-single e b l = elim (same-or-not b e) [
  | inl s ↦ ap (λ (k : ℕ). bit_at (1 * 2 ^ e % 2 ^ 64) k == 1) s ∙ ap (λ (n : ℕ). n == 1) (bit_at_set_same w64 0 e l) ∙ sym (is-true e b (sym s))
  | inr s ↦ ap (λ (n : ℕ). n == 1) (bit_at_set_other w64 0 e l b s ∙ bit_at-zero b) ∙ sym (is-false e b (λ q. s (sym q)))
]

-- the low bits
pub set-low : (k b : ℕ) → is_set (2 ^ k - 1) b ≡ nat_lt b k
unfolding is_set
set-low k b = elim (below-or-not b k) [
  | inl l ↦ ap (λ (n : ℕ). n == 1) (bit_at_ones k b l) ∙ sym (lt-true b k l)
  | inr l ↦ ap (λ (n : ℕ). n == 1) (bit_at_ones_above k b l) ∙ sym (lt-false b k l)
]

-- the low bits of `MAX >> s`
pub set-shifted : (s b : ℕ) → s ≤ 64 → is_set ((2 ^ 64 - 1) / 2 ^ s) b ≡ nat_lt b (64 - s)
set-shifted s b l = ap (λ (n : ℕ). is_set n b) (ones_shr 64 s l) ∙ set-low (64 - s) b

-- the test `(word >> b) & 1 == 1`
pub set-test : (word b : ℕ) → (bit_and (word / 2 ^ b) 1 == 1) ≡ is_set word b
unfolding is_set
set-test word b = ap (λ (n : ℕ). n == 1) (shr_and_one word b)
