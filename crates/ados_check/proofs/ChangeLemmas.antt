-- Scripts of which bytes are changed, some after others.
use Rattle.std.proofs.Common.{ℕ, ◌≡◌, ◌∙◌, ◌<◌, ◌&&◌, ◌||◌, Bool, true, false, length, slice_index, refl, sym, ap, arith}
use Rattle.ados_text.specs.Text.{Bytes}

-- the new text is as long as the old one; `change` says what becomes of each byte, by whether `test` holds of its place
abbrev pub IsChanged : (Bool → ℕ → ℕ) → (ℕ → Bool) → Bytes → Bytes → Type 0
IsChanged change test old new = (length new ≡ length old) × ((k : ℕ) → k < length old → slice_index new k ≡ change (test k) (slice_index old k))

-- what is left to be changed of a script gives what all gives of the first
abbrev pub Leaves : (Bool → ℕ → ℕ) → (ℕ → Bool) → (ℕ → Bool) → Bytes → Bytes → Type 0
Leaves change rest all old now =
    (length now ≡ length old) × ((k : ℕ) → k < length old → change (rest k) (slice_index now k) ≡ change (all k) (slice_index old k))

-- a byte that is changed twice is as if it were changed once
abbrev pub ChangesOnce : (Bool → ℕ → ℕ) → Type 0
ChangesOnce change = (p q : Bool) (c : ℕ) → change q (change p c) ≡ change (p || q) c

-- some more is changed
pub leaves_less : (change : Bool → ℕ → ℕ) → ChangesOnce change → (some less rest all : ℕ → Bool) (old now new : Bytes)
    → ((k : ℕ) → k < length old → rest k ≡ (some k || less k)) → Leaves change rest all old now → IsChanged change some now new → Leaves change less all old new
leaves_less change once some less rest all old now new parts leaves is = (
  is.0 ∙ leaves.0,
  λ k within.
      ap (change (less k)) (is.1 k (omega (arith, within, leaves.0))) ∙ once (some k) (less k) (slice_index now k)
      ∙ sym (ap (λ b. change b (slice_index now k)) (parts k within)) ∙ leaves.1 k within,
)

-- of the same places
pub leaves_same : (change : Bool → ℕ → ℕ) (less rest all : ℕ → Bool) (old now : Bytes) → ((k : ℕ) → k < length old → rest k ≡ less k)
    → Leaves change rest all old now → Leaves change less all old now
leaves_same change less rest all old now same leaves = (
  leaves.0,
  λ k within. sym (ap (λ b. change b (slice_index now k)) (same k within)) ∙ leaves.1 k within,
)

-- nothing is left: `change` leaves a byte whose place is not to be changed
pub leaves_none : (change : Bool → ℕ → ℕ) → ((c : ℕ) → change false c ≡ c) → (rest all : ℕ → Bool) (old now : Bytes)
    → ((k : ℕ) → k < length old → rest k ≡ false) → Leaves change rest all old now → IsChanged change all old now
leaves_none change keeps rest all old now none leaves = (
  leaves.0,
  λ k within. sym (keeps (slice_index now k)) ∙ sym (ap (λ b. change b (slice_index now k)) (none k within)) ∙ leaves.1 k within,
)

pub and_none : (b : Bool) → (b && false) ≡ false
and_none true = refl
and_none false = refl
