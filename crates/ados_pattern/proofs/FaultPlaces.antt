-- The first fault that the tokens show is at the least place of a fault.
use Rattle.std.proofs.Common.{◌≡◌, ℕ, zero, suc, ◌+◌, ◌-◌, ◌<◌, ◌≤◌, List, [], ◌∷◌, ◌++◌, length, Bool, true, false, ◌==◌, if◌then◌else◌, Option, Some, refl, sym, ◌∙◌, ap, subst, arith, ◌⊎◌, inl, inr, append_assoc, length-append}
use Rattle.ados_pattern.specs.declared.tokens.Token.{Token}
use Rattle.ados_pattern.specs.declared.tokens.Token.TheVariants.{Any, Bar, Char, ClassOpen, Close, Many, Nothing, Open, Other, Silent}
use Rattle.ados_pattern.specs.declared.tokens.Mode.TheVariants.{Plain, Begun, Quoted}
use Rattle.ados_pattern.specs.Tokens.{tokens_from}
use Rattle.ados_pattern.specs.Fault.{closes, depth_after, fault_from, is_fault}
use Rattle.ados_pattern.specs.FaultPlace.{Leads, here, opened, closed, quoted, class, other}
use Rattle.ados_pattern.proofs.RuleLemmas.{eq-is}
use Rattle.ados_pattern.specs.Signs.{bar, percent, question, close_class, close_group, hash, is_frame, open_class, open_group, quote, tilde}
use Rattle.ados_pattern.proofs.ClassTexts.{text-closes, text-fault}
use Rattle.ados_pattern.proofs.ClassReads.{if-false}
use Rattle.ados_pattern.proofs.Views.{View, view, at_end, at_hanging, at_quoted, at_open_class, at_class, at_any, at_nothing, at_many, at_other, at_bar, at_open, at_close, at_char, char-frame, char-tokens}

-- tokens that begin and end no group and no class
pub data IsQuiet : Token → Type 0 where
  quiet_any : IsQuiet Any
  quiet_nothing : IsQuiet Nothing
  quiet_many : IsQuiet Many
  quiet_other : IsQuiet Other
  quiet_bar : IsQuiet Bar
  quiet_char : (c : ℕ) → IsQuiet (Char c)

pub record Quiet (c : ℕ) (rest : List ℕ) : Type 0 where
  pub token : Token
  pub quiet : IsQuiet token
  pub tokens : tokens_from Plain (c ∷ rest) ≡ token ∷ tokens_from Plain rest

abbrev pub MayBeQuiet : List ℕ → Type 0
MayBeQuiet [] = Unit {0}
MayBeQuiet (c ∷ rest) = is_frame c ≡ false → Quiet c rest

pub view-quiet : {text : List ℕ} → View text → MayBeQuiet text
view-quiet at_end = tt
view-quiet at_hanging = λ e. absurd cc
view-quiet (at_quoted c rest) = λ e. absurd cc
view-quiet (at_open_class rest o) = λ e. absurd cc
view-quiet (at_class s rest t k) = λ e. absurd cc
view-quiet (at_any rest) = λ e. record { token = Any; quiet = quiet_any; tokens = refl }
view-quiet (at_nothing rest) = λ e. record { token = Nothing; quiet = quiet_nothing; tokens = refl }
view-quiet (at_many rest) = λ e. record { token = Many; quiet = quiet_many; tokens = refl }
view-quiet (at_other rest) = λ e. record { token = Other; quiet = quiet_other; tokens = refl }
view-quiet (at_bar rest) = λ e. record { token = Bar; quiet = quiet_bar; tokens = refl }
view-quiet (at_open rest) = λ e. absurd cc
view-quiet (at_close rest) = λ e. absurd cc
view-quiet (at_char c rest k) = λ e. record { token = Char c; quiet = quiet_char c; tokens = char-tokens c rest k }

pub quiet-of : (c : ℕ) (rest : List ℕ) → is_frame c ≡ false → Quiet c rest
quiet-of c rest e = view-quiet (view (c ∷ rest)) e

pub quiet-closes : {t : Token} → IsQuiet t → (depth : ℕ) (ts : List Token) → closes depth (t ∷ ts) ≡ closes depth ts
quiet-closes quiet_any depth ts = refl
quiet-closes quiet_nothing depth ts = refl
quiet-closes quiet_many depth ts = refl
quiet-closes quiet_other depth ts = refl
quiet-closes quiet_bar depth ts = refl
quiet-closes (quiet_char c) depth ts = refl

pub quiet-depth : {t : Token} → IsQuiet t → (depth : ℕ) → depth_after depth t ≡ depth
quiet-depth quiet_any depth = refl
quiet-depth quiet_nothing depth = refl
quiet-depth quiet_many depth = refl
quiet-depth quiet_other depth = refl
quiet-depth quiet_bar depth = refl
quiet-depth (quiet_char c) depth = refl

pub close-not-first : (depth : ℕ) → (depth + 1 == 0) ≡ false
close-not-first depth = grind arith

-- whether a group is closed after a text that changes the number of open groups
pub leads-closes : {d e : ℕ} {front : List ℕ} → Leads d front e → (rest : List ℕ) → closes d (tokens_from Plain (front ++ rest)) ≡ closes e (tokens_from Plain rest)
leads-closes (here d) rest = refl
leads-closes (opened d e t l) rest = leads-closes l rest
leads-closes (closed d e t l) rest =
    if-false (d + 1 == 0) true (closes (d + 1 - 1) (tokens_from Plain (t ++ rest))) (close-not-first d)
    ∙ (let f : d + 1 - 1 ≡ d = omega arith in ap (λ k. closes k (tokens_from Plain (t ++ rest))) f)
    ∙ leads-closes l rest
leads-closes (quoted d e c t l) rest = leads-closes l rest
leads-closes (class d e s t k l) rest = ap (λ x. closes d (tokens_from Begun x)) (append_assoc s (close_class ∷ t) rest) ∙ text-closes k d (t ++ rest) ∙ leads-closes l rest
leads-closes (other d e c t f l) rest = let w = quiet-of c (t ++ rest) f in ap (closes d) w.tokens ∙ quiet-closes w.quiet d (tokens_from Plain (t ++ rest)) ∙ leads-closes l rest

-- the fault found is that found in the rest, or an earlier one
abbrev pub GoesTo : Option ℕ → ℕ → Option ℕ → Type 0
GoesTo found place tail = (found ≡ tail) ⊎ ((q : ℕ) × (q < place) × (found ≡ Some q))

pub goes-as : (f g : Option ℕ) (place : ℕ) (tail : Option ℕ) → f ≡ g → GoesTo g place tail → GoesTo f place tail
goes-as f g place tail e w = subst (λ x. GoesTo x place tail) (sym e) w

pub goes-on : (d place : ℕ) (t : Token) (ts : List Token) (after : ℕ) (tail : Option ℕ) → place < after → GoesTo (fault_from (depth_after d t) (place + 1) ts) after tail → GoesTo (fault_from d place (t ∷ ts)) after tail
goes-on d place t ts after tail l w = go (is_fault d t ts) refl
  where
    go : (b : Bool) → is_fault d t ts ≡ b → GoesTo (fault_from d place (t ∷ ts)) after tail
    go true e = inr (place, l, ap (λ b. if b then Some place else fault_from (depth_after d t) (place + 1) ts) e)
    go false e = goes-as _ _ after tail (ap (λ b. if b then Some place else fault_from (depth_after d t) (place + 1) ts) e) w

pub goes-to : (f : Option ℕ) (a b : ℕ) (tail : ℕ → Option ℕ) → a ≡ b → GoesTo f a (tail a) → GoesTo f b (tail b)
goes-to f a b tail e w = subst (λ k. GoesTo f k (tail k)) e w

pub leads-on : (d place : ℕ) (t : Token) (ts : List Token) (k n after e : ℕ) (rest : List Token) → depth_after d t ≡ k → place + 1 + n ≡ after → GoesTo (fault_from k (place + 1) ts) (place + 1 + n) (fault_from e (place + 1 + n) rest) → GoesTo (fault_from d place (t ∷ ts)) after (fault_from e after rest)
leads-on d place t ts k n after e rest depth far w =
    goes-on d place t ts after (fault_from e after rest) (omega (arith, far))
    (goes-as _ _ _ _ (ap (λ k. fault_from k (place + 1) ts) depth)
    (goes-to (fault_from k (place + 1) ts) (place + 1 + n) after (λ k. fault_from e k rest) far w))

pub leads-fault : {d e : ℕ} {front : List ℕ} → Leads d front e → (place : ℕ) (rest : List ℕ) → GoesTo (fault_from d place (tokens_from Plain (front ++ rest))) (place + length front) (fault_from e (place + length front) (tokens_from Plain rest))
leads-fault (here d) place rest = inl (let f : place ≡ place + 0 = omega arith in ap (λ k. fault_from d k (tokens_from Plain rest)) f)
leads-fault (opened d e t l) place rest = leads-on d place Open (tokens_from Plain (t ++ rest)) (d + 1) (length t) _ e (tokens_from Plain rest) refl (omega arith) (leads-fault l (place + 1) rest)
leads-fault (closed d e t l) place rest = leads-on (d + 1) place Close (tokens_from Plain (t ++ rest)) d (length t) _ e (tokens_from Plain rest) (omega arith) (omega arith) (leads-fault l (place + 1) rest)
leads-fault (quoted d e c t l) place rest =
    leads-on d place Silent (tokens_from Quoted (c ∷ (t ++ rest))) d (length t + 1) _ e (tokens_from Plain rest) refl (omega arith)
    (leads-on d (place + 1) (Char c) (tokens_from Plain (t ++ rest)) d (length t) _ e (tokens_from Plain rest) refl (omega arith) (leads-fault l (place + 1 + 1) rest))
leads-fault (class d e s t k l) place rest =
    leads-on d place ClassOpen (tokens_from Begun ((s ++ close_class ∷ t) ++ rest)) d (length s + 1 + length t) _ e (tokens_from Plain rest) refl (omega (arith, length-append s (close_class ∷ t)))
    (goes-as _ _ _ _ (ap (λ x. fault_from d (place + 1) (tokens_from Begun x)) (append_assoc s (close_class ∷ t) rest) ∙ text-fault k d (place + 1) (t ++ rest))
    (goes-to (fault_from d (place + 1 + length s + 1) (tokens_from Plain (t ++ rest))) (place + 1 + length s + 1 + length t) (place + 1 + (length s + 1 + length t)) (λ k. fault_from e k (tokens_from Plain rest)) (omega arith) (leads-fault l (place + 1 + length s + 1) rest)))
leads-fault (other d e c t f l) place rest =
    let w = quiet-of c (t ++ rest) f in
    goes-as _ _ _ _ (ap (fault_from d place) w.tokens)
    (leads-on d place w.token (tokens_from Plain (t ++ rest)) d (length t) _ e (tokens_from Plain rest) (quiet-depth w.quiet d) (omega arith) (leads-fault l (place + 1) rest))

-- what closes the group around a text
pub record IsClosed (d : ℕ) (text : List ℕ) : Type 0 where
  pub inner : List ℕ
  pub tail : List ℕ
  pub joined : text ≡ inner ++ close_group ∷ tail
  pub led : Leads d inner 0

pub closed-quiet : (d c : ℕ) (rest : List ℕ) → is_frame c ≡ false → IsClosed d rest → IsClosed d (c ∷ rest)
closed-quiet d c rest e w = record { inner = c ∷ w.inner; tail = w.tail; joined = ap (λ x. c ∷ x) w.joined; led = other d 0 c w.inner e w.led }

pub closed-at : (d : ℕ) (rest : List ℕ) → (IsClosed (d - 1) rest) ⊎ (d ≡ 0) → IsClosed d (close_group ∷ rest)
closed-at zero rest w = record { inner = []; tail = rest; joined = refl; led = here 0 }
closed-at (suc d) rest w = elim w [
  | inr e ↦ absurd (omega (arith, e))
  | inl w ↦
      let e : suc d - 1 ≡ d = omega arith in
      let f : d + 1 ≡ suc d = omega arith in
      record { inner = close_group ∷ w.inner; tail = w.tail; joined = ap (λ x. close_group ∷ x) w.joined; led = subst (λ k. Leads k (close_group ∷ w.inner) 0) f (closed d 0 w.inner (subst (λ k. Leads k w.inner 0) e w.led)) }
]

abbrev pub Closes : ℕ → List ℕ → Type 0
Closes n text = length text ≤ n → (d : ℕ) → closes d (tokens_from Plain text) ≡ true → IsClosed d text

pub close-step : {text : List ℕ} → View text → (n : ℕ) → ((r : List ℕ) → Closes n r) → Closes (suc n) text
close-step at_end n again l d e = absurd cc
close-step at_hanging n again l d e = absurd cc
close-step (at_quoted c rest) n again l d e = let w = again rest (omega (arith, l)) d e in record { inner = quote ∷ c ∷ w.inner; tail = w.tail; joined = ap (λ x. quote ∷ c ∷ x) w.joined; led = quoted d 0 c w.inner w.led }
close-step (at_open_class rest o) n again l d e = let f : false ≡ true = sym (o.unclosed d) ∙ e in absurd cc
close-step (at_class s rest k g) n again l d e =
    let w = again rest (omega (arith, l, length-append s (close_class ∷ rest))) d (sym (text-closes k d rest) ∙ e) in
    record {
      inner = open_class ∷ (s ++ close_class ∷ w.inner);
      tail = w.tail;
      joined = ap (λ x. open_class ∷ (s ++ close_class ∷ x)) w.joined ∙ ap (λ x. open_class ∷ x) (sym (append_assoc s (close_class ∷ w.inner) (close_group ∷ w.tail)));
      led = class d 0 s w.inner k w.led;
    }
close-step (at_any rest) n again l d e = closed-quiet d question rest refl (again rest (omega (arith, l)) d e)
close-step (at_nothing rest) n again l d e = closed-quiet d percent rest refl (again rest (omega (arith, l)) d e)
close-step (at_many rest) n again l d e = closed-quiet d hash rest refl (again rest (omega (arith, l)) d e)
close-step (at_other rest) n again l d e = closed-quiet d tilde rest refl (again rest (omega (arith, l)) d e)
close-step (at_bar rest) n again l d e = closed-quiet d bar rest refl (again rest (omega (arith, l)) d e)
close-step (at_open rest) n again l d e = let w = again rest (omega (arith, l)) (d + 1) e in record { inner = open_group ∷ w.inner; tail = w.tail; joined = ap (λ x. open_group ∷ x) w.joined; led = opened d 0 w.inner w.led }
close-step (at_close rest) n again l d e = closed-at d rest (close-cases (d == 0) refl)
  where
    close-cases : (b : Bool) → (d == 0) ≡ b → IsClosed (d - 1) rest ⊎ (d ≡ 0)
    close-cases true f = inr (eq-is d 0 f)
    close-cases false f = inl (again rest (omega (arith, l)) (d - 1) (sym (ap (λ b. if b then true else closes (d - 1) (tokens_from Plain rest)) f) ∙ e))
close-step (at_char c rest k) n again l d e = closed-quiet d c rest (char-frame c k) (again rest (omega (arith, l)) d (sym (ap (closes d) (char-tokens c rest k)) ∙ e))

pub close-found : (n : ℕ) (text : List ℕ) → Closes n text
close-found zero [] l d e = absurd cc
close-found zero (c ∷ text) l d e = absurd (omega (arith, l))
close-found (suc n) text l d e = close-step (view text) n (λ r. close-found n r) l d e

pub not-closed : (text : List ℕ) → ((inner tail : List ℕ) → text ≡ inner ++ close_group ∷ tail → Leads 0 inner 0 → ⊥) → closes 0 (tokens_from Plain text) ≡ false
not-closed text none = go (closes 0 (tokens_from Plain text)) refl
  where
    go : (b : Bool) → closes 0 (tokens_from Plain text) ≡ b → closes 0 (tokens_from Plain text) ≡ false
    go false e = e
    go true e = let w = close-found (length text) text (omega arith) 0 e in absurd (none w.inner w.tail w.joined w.led)

pub closed-not : (text : List ℕ) → closes 0 (tokens_from Plain text) ≡ false → (inner tail : List ℕ) → text ≡ inner ++ close_group ∷ tail → Leads 0 inner 0 → ⊥
closed-not text e inner tail j l = let f : true ≡ false = sym (ap (λ x. closes 0 (tokens_from Plain x)) j ∙ leads-closes l (close_group ∷ tail)) ∙ e in absurd cc
