-- The first fault that the tokens show is at the least place of a fault.
use Rattle.std.proofs.Common.{◌≡◌, ℕ, zero, suc, ◌+◌, ◌-◌, ◌≤◌, List, [], ◌∷◌, ◌++◌, length, Bool, true, false, ◌==◌, if◌then◌else◌, Option, Some, refl, sym, ◌∙◌, ap, subst, arith, ◌⊎◌, inl, inr, append_assoc, length-append}
use Rattle.std.proofs.Math.Bool.{not}
use Rattle.std.proofs.lemmas.Bool.{not-true}
use Rattle.ados_pattern.specs.declared.tokens.Mode.TheVariants.{Plain, Begun}
use Rattle.ados_pattern.specs.Tokens.{tokens_from, tokens_of}
use Rattle.ados_pattern.specs.Fault.{closes, fault_from, has_nothing, is_bad_class}
use Rattle.ados_pattern.specs.Form.{Form}
use Rattle.ados_pattern.specs.Grammar.{IsClass}
use Rattle.ados_pattern.specs.FaultPlace.{EndsRow, FaultAt, IsClassText, IsFault, IsFirstFault, Leads, bare, hanging_quote, no_class, open_for_ever, open_too_few, here, opened, closed, quoted, class, other}
use Rattle.ados_pattern.specs.Signs.{bar, percent, question, close_class, close_group, hash, is_frame, open_class, open_group, quote, tilde}
use Rattle.ados_pattern.proofs.ClassTexts.{IsWhole, class-good, text-fault, whole-cut}
use Rattle.ados_pattern.proofs.ClassReads.{IsOpen}
use Rattle.ados_pattern.proofs.FaultPlaces.{closed-not, leads-fault, not-closed}
use Rattle.ados_pattern.proofs.RuleLemmas.{below-or-past, eq-is}
use Rattle.ados_pattern.proofs.Views.{View, view, at_end, at_hanging, at_quoted, at_open_class, at_class, at_any, at_nothing, at_many, at_other, at_bar, at_open, at_close, at_char, char-frame, char-tokens}

pub ends-nothing : (text : List ℕ) → EndsRow text → has_nothing (tokens_from Plain text) ≡ true
ends-nothing [] e = refl
ends-nothing (c ∷ text) e = elim e [
  | inl b ↦ ap (λ x. has_nothing (tokens_from Plain (x ∷ text))) b
  | inr b ↦ ap (λ x. has_nothing (tokens_from Plain (x ∷ text))) b
]

pub nothing-ends : {text : List ℕ} → View text → has_nothing (tokens_from Plain text) ≡ true → EndsRow text
nothing-ends at_end e = tt
nothing-ends at_hanging e = absurd cc
nothing-ends (at_quoted c rest) e = absurd cc
nothing-ends (at_open_class rest o) e = absurd cc
nothing-ends (at_class s rest t k) e = absurd cc
nothing-ends (at_any rest) e = absurd cc
nothing-ends (at_nothing rest) e = absurd cc
nothing-ends (at_many rest) e = absurd cc
nothing-ends (at_other rest) e = absurd cc
nothing-ends (at_bar rest) e = inl refl
nothing-ends (at_open rest) e = absurd cc
nothing-ends (at_close rest) e = inr refl
nothing-ends (at_char c rest k) e = let f : false ≡ true = sym (ap has_nothing (char-tokens c rest k)) ∙ e in absurd cc

pub not-class : (text : List ℕ) → ((inner tail : List ℕ) (f : Form) → text ≡ inner ++ close_class ∷ tail → IsClass inner f → ⊥) → is_bad_class false (tokens_from Begun text) ≡ true
not-class text none = go (is_bad_class false (tokens_from Begun text)) refl
  where
    contrary : is_bad_class false (tokens_from Begun text) ≡ false → IsWhole text ⊎ IsOpen (tokens_from Begun text) → is_bad_class false (tokens_from Begun text) ≡ true
    contrary e cut = elim cut [
      | inr o ↦ o.bad false
      | inl w ↦ let c = w.class e in absurd (none w.front w.tail c.0 w.joined c.1)
    ]

    go : (b : Bool) → is_bad_class false (tokens_from Begun text) ≡ b → is_bad_class false (tokens_from Begun text) ≡ true
    go true e = e
    go false e = contrary e (whole-cut text)

pub class-not : (text : List ℕ) → is_bad_class false (tokens_from Begun text) ≡ true → (inner tail : List ℕ) (f : Form) → text ≡ inner ++ close_class ∷ tail → IsClass inner f → ⊥
class-not text e inner tail f j c = let g : false ≡ true = sym (ap (λ x. is_bad_class false (tokens_from Begun x)) j ∙ class-good c tail) ∙ e in absurd cc

-- a fault at the beginning is found there
pub fault-here : {d : ℕ} {text : List ℕ} → IsFault d text → (place : ℕ) → fault_from d place (tokens_from Plain text) ≡ Some place
fault-here (hanging_quote d) place = refl
fault-here (bare d c text k e) place = elim k [
  | inl f ↦ ap (λ x. fault_from d place (tokens_from Plain (x ∷ text))) f ∙ ap (λ b. if b then Some place else fault_from d (place + 1) (tokens_from Plain text)) (ends-nothing text e)
  | inr f ↦ ap (λ x. fault_from d place (tokens_from Plain (x ∷ text))) f ∙ ap (λ b. if b then Some place else fault_from d (place + 1) (tokens_from Plain text)) (ends-nothing text e)
]
fault-here (open_too_few text) place = refl
fault-here (open_for_ever d text none) place = ap (λ b. if not b then Some place else fault_from (d + 1) (place + 1) (tokens_from Plain text)) (not-closed text none)
fault-here (no_class d text none) place = ap (λ b. if b then Some place else fault_from d (place + 1) (tokens_from Begun text)) (not-class text none)

-- the fault that is found is in the text
pub record Found (d place : ℕ) (text : List ℕ) (p : ℕ) : Type 0 where
  pub front : List ℕ
  pub rest : List ℕ
  pub depth : ℕ
  pub joined : text ≡ front ++ rest
  pub placed : place + length front ≡ p
  pub led : Leads d front depth
  pub fault : IsFault depth rest

pub found-here : (d place p : ℕ) (text : List ℕ) → IsFault d text → Some place ≡ Some p → Found d place text p
found-here d place p text f e = let g : place ≡ p = cc in record { front = []; rest = text; depth = d; joined = refl; placed = omega (arith, g); led = here d; fault = f }

pub found-quiet : (d place p c : ℕ) (rest : List ℕ) → is_frame c ≡ false → Found d (place + 1) rest p → Found d place (c ∷ rest) p
found-quiet d place p c rest e w = record { front = c ∷ w.front; rest = w.rest; depth = w.depth; joined = ap (λ x. c ∷ x) w.joined; placed = omega (arith, w.placed); led = other d w.depth c w.front e w.led; fault = w.fault }

pub found-opened : (d place p : ℕ) (rest : List ℕ) → Found (d + 1) (place + 1) rest p → Found d place (open_group ∷ rest) p
found-opened d place p rest w = record { front = open_group ∷ w.front; rest = w.rest; depth = w.depth; joined = ap (λ x. open_group ∷ x) w.joined; placed = omega (arith, w.placed); led = opened d w.depth w.front w.led; fault = w.fault }

pub found-closed : (d place p : ℕ) (rest : List ℕ) → (d == 0) ≡ false → Found (d - 1) (place + 1) rest p → Found d place (close_group ∷ rest) p
found-closed zero place p rest n w = absurd cc
found-closed (suc d) place p rest n w =
    let e : suc d - 1 ≡ d = omega arith in
    let f : d + 1 ≡ suc d = omega arith in
    record {
      front = close_group ∷ w.front;
      rest = w.rest;
      depth = w.depth;
      joined = ap (λ x. close_group ∷ x) w.joined;
      placed = omega (arith, w.placed);
      led = subst (λ k. Leads k (close_group ∷ w.front) w.depth) f (closed d w.depth w.front (subst (λ k. Leads k w.front w.depth) e w.led));
      fault = w.fault;
    }

pub found-class : (d place p : ℕ) (s rest : List ℕ) → (k : IsClassText s) → Found d (place + 1 + length s + 1) rest p → Found d place (open_class ∷ (s ++ close_class ∷ rest)) p
found-class d place p s rest k w = record {
  front = open_class ∷ (s ++ close_class ∷ w.front);
  rest = w.rest;
  depth = w.depth;
  joined = ap (λ x. open_class ∷ (s ++ close_class ∷ x)) w.joined ∙ ap (λ x. open_class ∷ x) (sym (append_assoc s (close_class ∷ w.front) w.rest));
  placed = omega (arith, w.placed, length-append s (close_class ∷ w.front));
  led = class d w.depth s w.front k w.led;
  fault = w.fault;
}

pub by-fault : (b : Bool) (place p : ℕ) (x : Option ℕ) → (if b then Some place else x) ≡ Some p → ((b ≡ true) × (Some place ≡ Some p)) ⊎ ((b ≡ false) × (x ≡ Some p))
by-fault true place p x e = inl (refl, e)
by-fault false place p x e = inr (refl, e)

abbrev pub Finds : ℕ → List ℕ → Type 0
Finds n text = length text ≤ n → (d place p : ℕ) → fault_from d place (tokens_from Plain text) ≡ Some p → Found d place text p

pub find-step : {text : List ℕ} → View text → (n : ℕ) → ((r : List ℕ) → Finds n r) → Finds (suc n) text
find-step at_end n again l d place p e = absurd cc
find-step at_hanging n again l d place p e = found-here d place p (quote ∷ []) (hanging_quote d) e
find-step (at_quoted c rest) n again l d place p e =
    let w = again rest (omega (arith, l)) d (place + 1 + 1) p e in
    record { front = quote ∷ c ∷ w.front; rest = w.rest; depth = w.depth; joined = ap (λ x. quote ∷ c ∷ x) w.joined; placed = omega (arith, w.placed); led = quoted d w.depth c w.front w.led; fault = w.fault }
find-step (at_open_class rest o) n again l d place p e = elim (by-fault (is_bad_class false (tokens_from Begun rest)) place p (fault_from d (place + 1) (tokens_from Begun rest)) e) [
  | inl f ↦ found-here d place p (open_class ∷ rest) (no_class d rest (class-not rest f.0)) f.1
  | inr f ↦ let g : true ≡ false = sym (o.bad false) ∙ f.0 in absurd cc
]
find-step (at_class s rest k g) n again l d place p e = elim (by-fault (is_bad_class false (tokens_from Begun (s ++ close_class ∷ rest))) place p (fault_from d (place + 1) (tokens_from Begun (s ++ close_class ∷ rest))) e) [
  | inl f ↦ found-here d place p (open_class ∷ (s ++ close_class ∷ rest)) (no_class d (s ++ close_class ∷ rest) (class-not (s ++ close_class ∷ rest) f.0)) f.1
  | inr f ↦ found-class d place p s rest k (again rest (omega (arith, l, length-append s (close_class ∷ rest))) d (place + 1 + length s + 1) p (sym (text-fault k d (place + 1) rest) ∙ f.1))
]
find-step (at_any rest) n again l d place p e = found-quiet d place p question rest refl (again rest (omega (arith, l)) d (place + 1) p e)
find-step (at_nothing rest) n again l d place p e = found-quiet d place p percent rest refl (again rest (omega (arith, l)) d (place + 1) p e)
find-step (at_bar rest) n again l d place p e = found-quiet d place p bar rest refl (again rest (omega (arith, l)) d (place + 1) p e)
find-step (at_many rest) n again l d place p e = elim (by-fault (has_nothing (tokens_from Plain rest)) place p (fault_from d (place + 1) (tokens_from Plain rest)) e) [
  | inl f ↦ found-here d place p (hash ∷ rest) (bare d hash rest (inl refl) (nothing-ends (view rest) f.0)) f.1
  | inr f ↦ found-quiet d place p hash rest refl (again rest (omega (arith, l)) d (place + 1) p f.1)
]
find-step (at_other rest) n again l d place p e = elim (by-fault (has_nothing (tokens_from Plain rest)) place p (fault_from d (place + 1) (tokens_from Plain rest)) e) [
  | inl f ↦ found-here d place p (tilde ∷ rest) (bare d tilde rest (inr refl) (nothing-ends (view rest) f.0)) f.1
  | inr f ↦ found-quiet d place p tilde rest refl (again rest (omega (arith, l)) d (place + 1) p f.1)
]
find-step (at_open rest) n again l d place p e = elim (by-fault (not (closes 0 (tokens_from Plain rest))) place p (fault_from (d + 1) (place + 1) (tokens_from Plain rest)) e) [
  | inl f ↦ found-here d place p (open_group ∷ rest) (open_for_ever d rest (closed-not rest (not-true (closes 0 (tokens_from Plain rest)) f.0))) f.1
  | inr f ↦ found-opened d place p rest (again rest (omega (arith, l)) (d + 1) (place + 1) p f.1)
]
find-step (at_close rest) n again l d place p e = elim (by-fault (d == 0) place p (fault_from (d - 1) (place + 1) (tokens_from Plain rest)) e) [
  | inl f ↦ found-here d place p (close_group ∷ rest) (subst (λ k. IsFault k (close_group ∷ rest)) (sym (eq-is d 0 f.0)) (open_too_few rest)) f.1
  | inr f ↦ found-closed d place p rest f.0 (again rest (omega (arith, l)) (d - 1) (place + 1) p f.1)
]
find-step (at_char c rest k) n again l d place p e = found-quiet d place p c rest (char-frame c k) (again rest (omega (arith, l)) d (place + 1) p (sym (ap (fault_from d place) (char-tokens c rest k)) ∙ e))

pub find-fault : (n : ℕ) (text : List ℕ) → Finds n text
find-fault zero [] l d place p e = absurd cc
find-fault zero (c ∷ text) l d place p e = absurd (omega (arith, l))
find-fault (suc n) text l d place p e = find-step (view text) n (λ r. find-fault n r) l d place p e

pub found-at : (text : List ℕ) (p : ℕ) → fault_from 0 0 (tokens_of text) ≡ Some p → FaultAt text p
found-at text p e =
    let w = find-fault (length text) text (omega arith) 0 0 p e in
    record { front = w.front; rest = w.rest; depth = w.depth; joined = w.joined; placed = omega (arith, w.placed); led = w.led; fault = w.fault }

-- if there is a fault at a place, one is found there or before
pub fault-found : (text : List ℕ) (p : ℕ) → FaultAt text p → (q : ℕ) × (q ≤ p) × (fault_from 0 0 (tokens_of text) ≡ Some q)
fault-found text p w = elim (leads-fault w.led 0 w.rest) [
  | inl e ↦ (length w.front, omega (arith, w.placed), ap (λ x. fault_from 0 0 (tokens_of x)) w.joined ∙ e ∙ fault-here w.fault (0 + length w.front) ∙ (let f : 0 + length w.front ≡ length w.front = omega arith in ap Some f))
  | inr e ↦ (e.0, omega (arith, e.1, w.placed), ap (λ x. fault_from 0 0 (tokens_of x)) w.joined ∙ e.2)
]

pub same-place : (p q : ℕ) (f : Option ℕ) → f ≡ Some p → f ≡ Some q → p ≡ q
same-place p q f e g = cc

-- what is found is the least place of a fault, and that place is found
pub first-found : (text : List ℕ) (p : ℕ) → fault_from 0 0 (tokens_of text) ≡ Some p → IsFirstFault text p
first-found text p e = record {
  here = found-at text p e;
  none_before = λ earlier l at. let w = fault-found text earlier at in omega (arith, l, w.1, same-place p w.0 _ e w.2);
}

pub first-is-found : (text : List ℕ) (p : ℕ) → IsFirstFault text p → fault_from 0 0 (tokens_of text) ≡ Some p
first-is-found text p first =
    let w = fault-found text p first.here in
    elim (below-or-past p w.0) [
      | inl l ↦ let e : w.0 ≡ p = omega (arith, l, w.1) in w.2 ∙ ap Some e
      | inr l ↦ absurd (first.none_before w.0 l (found-at text w.0 w.2))
    ]
