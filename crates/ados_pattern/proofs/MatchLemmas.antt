-- The test of a text is true exactly if the text is what the pattern says.
use Rattle.std.proofs.Common.{◌≡◌, ℕ, zero, suc, ◌<◌, ◌≤◌, List, [], ◌∷◌, ◌++◌, length, length-append, Bool, true, false, ◌&&◌, ◌==◌, refl, sym, ap, arith, inl, inr, subst, IsTrue}
use Rattle.std.specs.Prelude.{◌↔◌}
use Rattle.std.proofs.Math.Bool.{not}
use Rattle.ados_pattern.specs.Form.{Form, Empty, Char, Any, Range, Outside, Many, Other, Then, Either}
use Rattle.ados_pattern.specs.Matches.{HasCut, Repeats, none, more, Matches}
use Rattle.ados_pattern.proofs.Anys.{both-left, both-right, both-true, either-cases, or-left, or-right}
use Rattle.ados_pattern.proofs.RuleLemmas.{eq-is, is-eq}
use Rattle.ados_pattern.specs.Matching.{is_empty, has_cut, repeats, is_match}

abbrev Holds : (List ℕ → Bool) → List ℕ → Type 0
Holds test text = test text ≡ true

cut-sound : (p q : List ℕ → Bool) (text : List ℕ) → has_cut p q text ≡ true → HasCut (Holds p) (Holds q) text
cut-sound p q [] h = record { front = []; rest = []; joined = refl; first = both-left (p []) (q []) h; second = both-right (p []) (q []) h }
cut-sound p q (c ∷ cs) h = elim (either-cases (p [] && q (c ∷ cs)) (has_cut (λ front. p (c ∷ front)) q cs) h) [
  | inl e ↦ record { front = []; rest = c ∷ cs; joined = refl; first = both-left (p []) (q (c ∷ cs)) e; second = both-right (p []) (q (c ∷ cs)) e }
  | inr e ↦
      let cut : HasCut (Holds (λ front. p (c ∷ front))) (Holds q) cs = cut-sound (λ front. p (c ∷ front)) q cs e in
      record { front = c ∷ cut.front; rest = cut.rest; joined = ap (λ t. c ∷ t) cut.joined; first = cut.first; second = cut.second }
]

cut-complete : (p q : List ℕ → Bool) (front rest : List ℕ) → p front ≡ true → q rest ≡ true → has_cut p q (front ++ rest) ≡ true
cut-complete p q [] [] h k = both-true (p []) (q []) h k
cut-complete p q [] (c ∷ cs) h k = or-left (p [] && q (c ∷ cs)) (has_cut (λ front. p (c ∷ front)) q cs) (both-true (p []) (q (c ∷ cs)) h k)
cut-complete p q (c ∷ front) rest h k =
    or-right (p [] && q (c ∷ front ++ rest)) (has_cut (λ t. p (c ∷ t)) q (front ++ rest)) (cut-complete (λ t. p (c ∷ t)) q front rest h k)

repeats-sound : (p : List ℕ → Bool) (count : ℕ) (text : List ℕ) → repeats p count text ≡ true → Repeats (Holds p) text
repeats-sound p count [] h = none
repeats-sound p zero (c ∷ cs) h = absurd cc
repeats-sound p (suc count) (c ∷ cs) h =
    let cut : HasCut (Holds (λ front. p (c ∷ front))) (Holds (repeats p count)) cs = cut-sound (λ front. p (c ∷ front)) (repeats p count) cs h in
    more (c ∷ cs) (c ∷ cut.front) cut.rest (ap (λ t. c ∷ t) cut.joined) (omega arith) cut.first (repeats-sound p count cut.rest cut.second)

-- a piece that is not empty, followed by a text that repeats
repeats-more : (p : List ℕ → Bool) (count : ℕ) (front rest : List ℕ) → 0 < length front → p front ≡ true → repeats p count rest ≡ true → repeats p (suc count) (front ++ rest) ≡ true
repeats-more p count [] rest l h k = absurd (omega (arith, l))
repeats-more p count (c ∷ front) rest l h k = cut-complete (λ t. p (c ∷ t)) (repeats p count) front rest h k

repeats-complete : (p : List ℕ → Bool) (count : ℕ) {text : List ℕ} → Repeats (Holds p) text → length text ≤ count → repeats p count text ≡ true
repeats-complete p count none l = refl
repeats-complete p zero (more text front rest joined long h r) l = absurd (omega (arith, l, long, ap length joined, length-append front rest))
repeats-complete p (suc count) (more text front rest joined long h r) l =
    subst (λ t. repeats p (suc count) t ≡ true) (sym joined)
    (repeats-more p count front rest long h (repeats-complete p count r (omega (arith, l, long, ap length joined, length-append front rest))))

repeats-as : (P Q : List ℕ → Type 0) → ((t : List ℕ) → P t → Q t) → {text : List ℕ} → Repeats P text → Repeats Q text
repeats-as P Q f none = none
repeats-as P Q f (more text front rest joined long p r) = more text front rest joined long (f front p) (repeats-as P Q f r)

cut-as : (P P' Q Q' : List ℕ → Type 0) → ((t : List ℕ) → P t → P' t) → ((t : List ℕ) → Q t → Q' t) → (text : List ℕ) → HasCut P Q text → HasCut P' Q' text
cut-as P P' Q Q' f g text cut = record { front = cut.front; rest = cut.rest; joined = cut.joined; first = f cut.front cut.first; second = g cut.rest cut.second }

-- a split that exists is found by the test
cut-tested : (p q : List ℕ → Bool) (text : List ℕ) → HasCut (Holds p) (Holds q) text → has_cut p q text ≡ true
cut-tested p q text cut = subst (λ t. has_cut p q t ≡ true) (sym cut.joined) (cut-complete p q cut.front cut.rest cut.first cut.second)

empty-sound : (text : List ℕ) → is_empty text ≡ true → text ≡ []
empty-sound [] h = refl
empty-sound (c ∷ cs) h = absurd cc

empty-complete : (text : List ℕ) → text ≡ [] → is_empty text ≡ true
empty-complete text e = ap is_empty e

no-match : (b : Bool) (P : Type 0) → (P → b ≡ true) → not b ≡ true → P → ⊥
no-match true P f h p = absurd cc
no-match false P f h p = let e : false ≡ true = f p in absurd cc

is-no-match : (b : Bool) (P : Type 0) → (b ≡ true → P) → (P → ⊥) → not b ≡ true
is-no-match true P f n = absurd (n (f refl))
is-no-match false P f n = refl

-- both directions at once: a negated part needs the other direction for its part
pub is-match : (f : Form) (text : List ℕ) → (is_match f text ≡ true → Matches f text) × (Matches f text → is_match f text ≡ true)
is-match Empty text = (empty-sound text, empty-complete text)
is-match (Char c) text = (λ h. h, λ h. h)
is-match Any text = (λ h. h, λ h. h)
is-match (Range low high) text = (λ h. h, λ h. h)
is-match (Outside f) text = (
  λ h. (eq-is (length text) 1 (both-left (length text == 1) (not (is_match f text)) h), no-match (is_match f text) (Matches f text) (is-match f text).1 (both-right (length text == 1) (not (is_match f text)) h)),
  λ h. both-true (length text == 1) (not (is_match f text)) (is-eq (length text) 1 h.0) (is-no-match (is_match f text) (Matches f text) (is-match f text).0 h.1),
)
is-match (Many f) text = (
  λ h. repeats-as (Holds (is_match f)) (Matches f) (λ t. (is-match f t).0) (repeats-sound (is_match f) (length text) text h),
  λ r. repeats-complete (is_match f) (length text) (repeats-as (Matches f) (Holds (is_match f)) (λ t. (is-match f t).1) r) (omega arith),
)
is-match (Other f) text = (
  λ h. no-match (is_match f text) (Matches f text) (is-match f text).1 h,
  λ n. is-no-match (is_match f text) (Matches f text) (is-match f text).0 n,
)
is-match (Then a b) text = (
  λ h. cut-as (Holds (is_match a)) (Matches a) (Holds (is_match b)) (Matches b) (λ t. (is-match a t).0) (λ t. (is-match b t).0) text (cut-sound (is_match a) (is_match b) text h),
  λ cut. cut-tested (is_match a) (is_match b) text (cut-as (Matches a) (Holds (is_match a)) (Matches b) (Holds (is_match b)) (λ t. (is-match a t).1) (λ t. (is-match b t).1) text cut),
)
is-match (Either a b) text = (
  λ h. elim (either-cases (is_match a text) (is_match b text) h) [ inl e ↦ inl ((is-match a text).0 e) | inr e ↦ inr ((is-match b text).0 e) ],
  λ h. elim h [ inl e ↦ or-left (is_match a text) (is_match b text) ((is-match a text).1 e) | inr e ↦ or-right (is_match a text) (is_match b text) ((is-match b text).1 e) ],
)

-- two tests that are true in the same cases are the same
alike : (a b : Bool) → (a ≡ true → b ≡ true) → (b ≡ true → a ≡ true) → a ≡ b
alike true b f g = sym (f refl)
alike false true f g = g refl
alike false false f g = refl

-- what is true exactly if the pattern says the text is the test
pub is-tested : (f : Form) (text : List ℕ) (b : Bool) → IsTrue b ↔ Matches f text → b ≡ is_match f text
is-tested f text b h = alike b (is_match f text) (λ e. (is-match f text).1 (h.0 e)) (λ e. h.1 ((is-match f text).0 e))
