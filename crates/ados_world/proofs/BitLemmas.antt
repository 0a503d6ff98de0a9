-- The bits of a word.
use Rattle.std.proofs.Common.{◌≡◌, ◌≢◌, ℕ, ◌+◌, ◌-◌, ◌*◌, ◌/◌, ◌%◌, ◌^◌, ◌<◌, ◌≤◌, Some, None, true, false, arith, sym, ◌∙◌, ap, inl, inr, w32}
use Rattle.std.specs.Prelude.{◌==◌}
use Rattle.std.specs.Int.{bit_at}
use Rattle.std.specs.Int.Count.{count_trailing_zeros, trailing_of_zero}
use Rattle.std.specs.Int.RustNames.{bit_or}
use lib.Bits.{bit_and}
use Rattle.std.proofs.lemmas.Bool.{cases_eq}
use Rattle.std.proofs.lemmas.Nat.{shr-shr, shr_le}
use Rattle.std.proofs.lemmas.Nat.Bits.{bit_at-zero, bit_at-trailing_zeros, bit_at_set_same, bit_at_set_other, bit_at_clear_same, bit_at_clear_other}
use Rattle.ados_world.specs.Due.{first_number, is_set}
use Rattle.ados_world.proofs.FirstLemmas.{IsNowhere, is-none, is-some}

pub set-same : (n k : ℕ) → k < 32 → is_set (bit_or n (1 * 2 ^ k % 4294967296)) k ≡ true
set-same n k within = ap (λ b. b == 1) (bit_at_set_same w32 n k within)

pub set-other : (n k i : ℕ) → k < 32 → i ≢ k → is_set (bit_or n (1 * 2 ^ k % 4294967296)) i ≡ is_set n i
set-other n k i within apart = ap (λ b. b == 1) (bit_at_set_other w32 n k within i apart)

pub clear-same : (n k : ℕ) → k < 32 → is_set (bit_and n (4294967295 - 1 * 2 ^ k % 4294967296)) k ≡ false
clear-same n k within = ap (λ b. b == 1) (bit_at_clear_same w32 n k within)

pub clear-other : (n k i : ℕ) → k < 32 → i < 32 → i ≢ k → is_set (bit_and n (4294967295 - 1 * 2 ^ k % 4294967296)) i ≡ is_set n i
clear-other n k i within low apart = ap (λ b. b == 1) (bit_at_clear_other w32 n k within i low apart)

-- below the lowest bit of a word none is set
none-low : (n i : ℕ) → n < 2 ^ 32 → i < count_trailing_zeros 32 n → bit_at n i ≡ 0
none-low n i below low =
    elim (cases_eq n 0) [
      | inl none ↦ ap (λ n. bit_at n i) none ∙ bit_at-zero i
      | inr some ↦ (bit_at-trailing_zeros w32 n (omega (arith, some)) below).2 i low
    ]

shifted : (word from i : ℕ) → from ≤ i → bit_at (word / 2 ^ from) (i - from) ≡ bit_at word i
shifted word from i low =
    let whole : from + (i - from) ≡ i = omega (arith, low) in
    ap (λ n. n % 2) (shr-shr word from (i - from)) ∙ ap (λ j. bit_at word j) whole

unset-before : (word from : ℕ) → word < 2 ^ 32 → IsNowhere (is_set word) from (from + count_trailing_zeros 32 (word / 2 ^ from))
unset-before word from below i low high =
    let less = shr_le word from in
    ap (λ b. b == 1) (sym (shifted word from i low) ∙ none-low (word / 2 ^ from) (i - from) (omega (arith, below, less)) (omega (arith, low, high)))

set-there : (word from : ℕ) → word < 2 ^ 32 → count_trailing_zeros 32 (word / 2 ^ from) < 32 → is_set word (from + count_trailing_zeros 32 (word / 2 ^ from)) ≡ true
set-there word from below few =
    let n : ℕ = word / 2 ^ from in
    let less = shr_le word from in
    elim (cases_eq n 0) [
      | inl none ↦ (let all : count_trailing_zeros 32 n ≡ 32 = ap (count_trailing_zeros 32) none ∙ trailing_of_zero 32 in absurd (omega (arith, all, few)))
      | inr some ↦ ap (λ b. b == 1) (sym (shr-bit word from (count_trailing_zeros 32 n)) ∙ (bit_at-trailing_zeros w32 n (omega (arith, some)) (omega (arith, below, less))).1)
    ]
  where
    shr-bit : (word from i : ℕ) → bit_at (word / 2 ^ from) i ≡ bit_at word (from + i)
    shr-bit word from i = ap (λ n. n % 2) (shr-shr word from i)

pub found-set : (word from : ℕ) → word < 2 ^ 32 → from + count_trailing_zeros 32 (word / 2 ^ from) ≤ 20
    → Some (from + count_trailing_zeros 32 (word / 2 ^ from)) ≡ first_number from (is_set word)
found-set word from below within =
    sym (is-some (is_set word) from 21 (from + count_trailing_zeros 32 (word / 2 ^ from)) (record {
      low = omega arith;
      high = omega (arith, within);
      here = set-there word from below (omega (arith, within));
      before = unset-before word from below;
    }))

pub none-set : (word from : ℕ) → word < 2 ^ 32 → 20 < from + count_trailing_zeros 32 (word / 2 ^ from) → None ≡ first_number from (is_set word)
none-set word from below past =
    sym (is-none (is_set word) from 21 (λ k low high. unset-before word from below k low (omega (arith, high, past))))
