-- A range has a member that folds as a byte does exactly if it has the byte in lower or in upper case.
use Rattle.std.proofs.Common.{◌≡◌, ℕ, ◌+◌, ◌-◌, ◌<◌, ◌≤◌, Bool, true, false, ◌||◌, refl, sym, ◌∙◌, ap, arith, ◌⊎◌, inl, inr, nat_le}
use Rattle.std.proofs.lemmas.Grind.{common_steps}
use Rattle.ados_text.specs.Text.{fold_of}
use Rattle.ados_pattern.specs.Matches.{in_range, is_same_character}
use Rattle.ados_pattern.specs.Range.{upper_of, is_between_of}
use Rattle.ados_pattern.proofs.Anys.{Found, any-found, any-true, both-left, both-right, both-true, either-cases, or-left, or-right}
use Rattle.ados_pattern.proofs.Bits.{is-true, le-true, lt-true, lt-false, below-or-not}
use Rattle.ados_pattern.proofs.RuleLemmas.{eq-is}

pub fold-low : (b : ℕ) → b < 65 → fold_of b ≡ b
fold-low b l = rw (lt-true b 65 l) refl

pub fold-upper : (b : ℕ) → 65 ≤ b → b < 91 → fold_of b ≡ b + 32
fold-upper b l m = rw (lt-false b 65 l, lt-true b 91 m) refl

pub fold-high : (b : ℕ) → 91 ≤ b → fold_of b ≡ b
fold-high b l = let e : 65 ≤ b = omega (arith, l) in rw (lt-false b 65 e, lt-false b 91 l) refl

pub raised-low : (b : ℕ) → b < 97 → upper_of b ≡ b
raised-low b l = rw (lt-true b 97 l) refl

pub raised-lower : (b : ℕ) → 97 ≤ b → b < 123 → upper_of b ≡ b - 32
raised-lower b l m = rw (lt-false b 97 l, lt-true b 123 m) refl

pub raised-high : (b : ℕ) → 123 ≤ b → upper_of b ≡ b
raised-high b l = let e : 97 ≤ b = omega (arith, l) in rw (lt-false b 97 e, lt-false b 123 l) refl

-- the byte folds to itself, or to 32 more in A to Z
pub fold-is : (b : ℕ) → ((fold_of b ≡ b) × ((b < 65) ⊎ (91 ≤ b))) ⊎ ((fold_of b ≡ b + 32) × (65 ≤ b) × (b < 91))
fold-is b = elim (below-or-not b 65) [
  | inl l ↦ inl (fold-low b l, inl l)
  | inr l ↦ elim (below-or-not b 91) [ inl m ↦ inr (fold-upper b l m, l, m) | inr m ↦ inl (fold-high b m, inr m) ]
]

pub raised-is : (b : ℕ) → ((upper_of b ≡ b) × ((b < 97) ⊎ (123 ≤ b))) ⊎ ((upper_of b ≡ b - 32) × (97 ≤ b) × (b < 123))
raised-is b = elim (below-or-not b 97) [
  | inl l ↦ inl (raised-low b l, inl l)
  | inr l ↦ elim (below-or-not b 123) [ inl m ↦ inr (raised-lower b l m, l, m) | inr m ↦ inl (raised-high b m, inr m) ]
]

pub fold-fold : (b : ℕ) → fold_of (fold_of b) ≡ fold_of b
fold-fold b = elim (fold-is b) [
  | inl f ↦ ap fold_of f.0
  | inr f ↦ ap fold_of f.0 ∙ fold-high (b + 32) (omega (arith, f.1)) ∙ sym f.0
]

pub fold-raised : (b : ℕ) → fold_of (upper_of b) ≡ fold_of b
fold-raised b = elim (raised-is b) [
  | inl r ↦ ap fold_of r.0
  | inr r ↦ ap fold_of r.0 ∙ fold-upper (b - 32) (omega (arith, r.1)) (omega (arith, r.1, r.2)) ∙ (let e : (b - 32) + 32 ≡ b = omega (arith, r.1) in e) ∙ sym (fold-high b (omega (arith, r.1)))
]

-- a byte that folds alike is the one or the other
pub one-of-two : (m c : ℕ) → fold_of m ≡ fold_of c → (m ≡ fold_of c) ⊎ (m ≡ upper_of c)
one-of-two m c e = elim (fold-is m) [
  | inl f ↦ inl (sym f.0 ∙ e)
  | inr f ↦ elim (raised-is c) [
    | inl r ↦ elim (fold-is c) [
      | inl g ↦ inr (omega (arith, e, f.0, f.1, f.2, r.0, r.1, g.0))
      | inr g ↦ inr (omega (arith, e, f.0, f.1, f.2, r.0, g.0))
    ]
    | inr r ↦ elim (fold-is c) [
      | inl g ↦ inr (omega (arith, e, f.0, f.1, f.2, r.0, r.1, r.2, g.0))
      | inr g ↦ absurd (omega (arith, r.1, g.2))
    ]
  ]
]

pub le-is : (a b : ℕ) → nat_le a b ≡ true → a ≤ b
le-is a b h = grind (arith, common_steps)

pub member-between : (low high c : ℕ) → low ≤ c → c < low + (high + 1 - low) → is_between_of low high c ≡ true
member-between low high c l m = both-true (nat_le low c) (nat_le c high) (le-true low c l) (le-true c high (omega (arith, l, m)))

pub range-has : (low high m c : ℕ) → is_between_of low high m ≡ true → fold_of m ≡ fold_of c → in_range low high c ≡ true
range-has low high m c h e =
    let l : low ≤ m = le-is low m (both-left (nat_le low m) (nat_le m high) h) in
    let k : m ≤ high = le-is m high (both-right (nat_le low m) (nat_le m high) h) in
    any-true (λ x. is_same_character x c) low (high + 1 - low) m l (omega (arith, l, k)) (is-true (fold_of m) (fold_of c) e)

pub range-member : (low high c : ℕ) → in_range low high c ≡ true → (is_between_of low high (fold_of c) || is_between_of low high (upper_of c)) ≡ true
range-member low high c h =
    let w : Found (λ m. is_same_character m c) low (high + 1 - low) = any-found (λ m. is_same_character m c) low (high + 1 - low) h in
    let b : is_between_of low high w.place ≡ true = member-between low high w.place w.from w.below in
    elim (one-of-two w.place c (eq-is (fold_of w.place) (fold_of c) w.passes)) [
      | inl e ↦ or-left _ _ (ap (is_between_of low high) (sym e) ∙ b)
      | inr e ↦ or-right _ _ (ap (is_between_of low high) (sym e) ∙ b)
    ]

pub same-bools : (a b : Bool) → (a ≡ true → b ≡ true) → (b ≡ true → a ≡ true) → a ≡ b
same-bools true b f g = sym (f refl)
same-bools false true f g = g refl
same-bools false false f g = refl

pub two_members : (low high c : ℕ) → in_range low high c ≡ (is_between_of low high (fold_of c) || is_between_of low high (upper_of c))
two_members low high c = same-bools (in_range low high c) _ (range-member low high c) (λ h. elim (either-cases (is_between_of low high (fold_of c)) (is_between_of low high (upper_of c)) h) [
  | inl e ↦ range-has low high (fold_of c) c e (fold-fold c)
  | inr e ↦ range-has low high (upper_of c) c e (fold-raised c)
])
