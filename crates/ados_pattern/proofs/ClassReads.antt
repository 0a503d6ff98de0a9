-- How the tokens of a class read its text.
use Rattle.std.proofs.Common.{◌≡◌, ℕ, zero, suc, ◌+◌, ◌<◌, ◌≤◌, List, [], ◌∷◌, ◌++◌, length, Bool, true, false, ◌&&◌, ◌==◌, nat_lt, if◌then◌else◌, None, refl, sym, ◌∙◌, ap, subst, arith, ◌⊎◌, inl, inr, append_assoc, length-append}
use Rattle.std.proofs.Math.Bool.{not}
use Rattle.ados_pattern.specs.declared.tokens.Token.{Token}
use Rattle.ados_pattern.specs.declared.tokens.Token.TheVariants.{Silent, Member, ClassClose}
use Rattle.ados_pattern.specs.declared.tokens.Mode.TheVariants.{Plain, Class, Low, Ranged}
use Rattle.ados_pattern.specs.Tokens.{begins_range, tokens_from}
use Rattle.ados_pattern.specs.Fault.{closes, fault_from, is_bad_class}
use Rattle.ados_pattern.specs.Build.{levels_of_tokens, on_row, with_member}
use Rattle.ados_pattern.specs.Grammar.{AreMembers, Begins, IsNoRange, IsOne, any_of, none, alone, range, plain, quoted}
use Rattle.ados_pattern.specs.Signs.{quote, dash, close_class}
use Rattle.ados_pattern.proofs.Anys.{both-left, both-right}
use Rattle.ados_pattern.proofs.RuleLemmas.{eq-is, is-eq}

-- the tokens of members
pub data Tells : List Token → List (ℕ × ℕ) → Type 0 where
  no_more : Tells [] []
  silent : (ts : List Token) (ms : List (ℕ × ℕ)) → Tells ts ms → Tells (Silent ∷ ts) ms
  member : (ts : List Token) (low high : ℕ) (ms : List (ℕ × ℕ)) → Tells ts ms → Tells (Member low high ∷ ts) ((low, high) ∷ ms)

-- `count` tokens of members, and the end of their class
pub record Told (tokens : List Token) (ms : List (ℕ × ℕ)) (rest : List Token) (count : ℕ) : Type 0 where
  pub front : List Token
  pub tells : Tells front ms
  pub counted : length front ≡ count
  pub joined : tokens ≡ front ++ ClassClose ∷ rest

pub if-false : {A : Type 0} (b : Bool) (x y : A) → b ≡ false → (if b then x else y) ≡ y
if-false true x y e = absurd cc
if-false false x y e = refl

pub if-true : {A : Type 0} (b : Bool) (x y : A) → b ≡ true → (if b then x else y) ≡ x
if-true true x y e = refl
if-true false x y e = absurd cc

pub both-same : {A : Type 0} (b : Bool) (x : A) → (if b then x else x) ≡ x
both-same true x = refl
both-same false x = refl

pub not-high : (h : ℕ) → not (h == 93) ≡ false → h ≡ 93
not-high h e = grind (arith, e)

pub is-not : (a b : ℕ) → (a ≡ b → ⊥) → (a == b) ≡ false
is-not a b free = grind (arith, free)

pub told-silent : (ts : List Token) (ms : List (ℕ × ℕ)) (rest : List Token) (n : ℕ) → Told ts ms rest n → Told (Silent ∷ ts) ms rest (n + 1)
told-silent ts ms rest n t = record { front = Silent ∷ t.front; tells = silent t.front ms t.tells; counted = omega (arith, t.counted); joined = ap (λ us. Silent ∷ us) t.joined }

pub told-member : (ts : List Token) (ms : List (ℕ × ℕ)) (rest : List Token) (n low high : ℕ) → Told ts ms rest n → Told (Member low high ∷ ts) ((low, high) ∷ ms) rest (n + 1)
told-member ts ms rest n low high t = record { front = Member low high ∷ t.front; tells = member t.front low high ms t.tells; counted = omega (arith, t.counted); joined = ap (λ us. Member low high ∷ us) t.joined }

pub told-as : (ts us : List Token) (ms : List (ℕ × ℕ)) (rest : List Token) (m n : ℕ) → us ≡ ts → n ≡ m → Told ts ms rest m → Told us ms rest n
told-as ts us ms rest m n e k t = record { front = t.front; tells = t.tells; counted = t.counted ∙ sym k; joined = e ∙ t.joined }

-- a character of a class, by whether a range begins after it
pub plain-tokens : (c : ℕ) (rest : List ℕ) (b : Bool) → (c ≡ quote → ⊥) → (c ≡ close_class → ⊥) → begins_range rest ≡ b → tokens_from Class (c ∷ rest) ≡ (if b then Silent else Member c c) ∷ tokens_from (if b then Low c else Class) rest
plain-tokens c rest b q k e = rw (is-not c 93 k, is-not c 39 q, e) refl

pub quoted-tokens : (c : ℕ) (rest : List ℕ) (b : Bool) → begins_range rest ≡ b → tokens_from Class (quote ∷ c ∷ rest) ≡ Silent ∷ ((if b then Silent else Member c c) ∷ tokens_from (if b then Low c else Class) rest)
quoted-tokens c rest b e = rw e refl

pub alone-told : {s : List ℕ} {c : ℕ} → IsOne s c → (rest : List ℕ) (ms : List (ℕ × ℕ)) (tail : List Token) (n : ℕ) → begins_range rest ≡ false → Told (tokens_from Class rest) ms tail n → Told (tokens_from Class (s ++ rest)) ((c, c) ∷ ms) tail (length s + n)
alone-told (plain c q k) rest ms tail n e t = told-as _ _ _ _ _ _ (plain-tokens c rest false q k e) (omega arith) (told-member _ ms tail n c c t)
alone-told (quoted c) rest ms tail n e t = told-as _ _ _ _ _ _ (quoted-tokens c rest false e) (omega arith) (told-silent _ _ _ _ (told-member _ ms tail n c c t))

-- the high end of a range
pub high-told : {u : List ℕ} {high : ℕ} → IsOne u high → (low : ℕ) (rest : List ℕ) (ms : List (ℕ × ℕ)) (tail : List Token) (n : ℕ) → Told (tokens_from Class rest) ms tail n → Told (tokens_from (Ranged low) (u ++ rest)) ((low, high) ∷ ms) tail (length u + n)
high-told (plain h q k) low rest ms tail n t = told-as _ _ _ _ _ _ (rw (is-not h 39 q) refl) (omega arith) (told-member _ ms tail n low h t)
high-told (quoted h) low rest ms tail n t = told-as _ _ _ _ _ _ refl (omega arith) (told-silent _ _ _ _ (told-member _ ms tail n low h t))

pub dash-begins : {u : List ℕ} {high : ℕ} → IsOne u high → (rest : List ℕ) → begins_range (dash ∷ (u ++ rest)) ≡ true
dash-begins (plain h q k) rest = rw (is-not h 93 k) refl
dash-begins (quoted h) rest = refl

pub range-told : {s u : List ℕ} {low high : ℕ} → IsOne s low → IsOne u high → (rest : List ℕ) (ms : List (ℕ × ℕ)) (tail : List Token) (n : ℕ) → Told (tokens_from Class rest) ms tail n → Told (tokens_from Class (s ++ dash ∷ (u ++ rest))) ((low, high) ∷ ms) tail (length s + (length u + n + 1))
range-told {u = u} (plain c q k) o rest ms tail n t = told-as _ _ _ _ _ _ (plain-tokens c (dash ∷ (u ++ rest)) true q k (dash-begins o rest)) (omega arith) (told-silent _ _ _ _ (told-silent _ _ _ _ (high-told o c rest ms tail n t)))
range-told {u = u} (quoted c) o rest ms tail n t = told-as _ _ _ _ _ _ (quoted-tokens c (dash ∷ (u ++ rest)) true (dash-begins o rest)) (omega arith) (told-silent _ _ _ _ (told-silent _ _ _ _ (told-silent _ _ _ _ (high-told o c rest ms tail n t))))

pub free-of-range : (t rest : List ℕ) → IsNoRange t → begins_range (t ++ close_class ∷ rest) ≡ false
free-of-range [] [] free = refl
free-of-range [] (c ∷ rest) free = refl
free-of-range (d ∷ []) rest free = grind (arith)
free-of-range (d ∷ h ∷ t) rest free = rw (is-not d 45 free) refl

-- the tokens of members
pub members-told : {t : List ℕ} {ms : List (ℕ × ℕ)} → AreMembers t ms → (rest : List ℕ) → Told (tokens_from Class (t ++ close_class ∷ rest)) ms (tokens_from Plain rest) (length t)
members-told none rest = record { front = []; tells = no_more; counted = refl; joined = refl }
members-told (alone s t c ms o free are) rest =
    told-as _ _ _ _ _ _ (ap (tokens_from Class) (append_assoc s t (close_class ∷ rest))) (length-append s t)
    (alone-told o (t ++ close_class ∷ rest) ms (tokens_from Plain rest) (length t) (free-of-range t rest free) (members-told are rest))
members-told (range s u t low high ms o p are) rest =
    told-as _ _ _ _ _ _
    (ap (tokens_from Class) (append_assoc s (dash ∷ (u ++ t)) (close_class ∷ rest) ∙ ap (λ x. s ++ dash ∷ x) (append_assoc u t (close_class ∷ rest))))
    (length-append s (dash ∷ (u ++ t)) ∙ omega (arith, length-append u t))
    (range-told o p (t ++ close_class ∷ rest) ms (tokens_from Plain rest) (length t) (members-told are rest))

-- whether members, with one before them or not, are none at all or have a descending range
abbrev pub is_bad_row : Bool → List (ℕ × ℕ) → Bool
is_bad_row has [] = not has
is_bad_row has (m ∷ ms) = if nat_lt m.1 m.0 then true else is_bad_row true ms

pub bad-told : {ts : List Token} {ms : List (ℕ × ℕ)} → Tells ts ms → (has : Bool) (rest : List Token) → is_bad_class has (ts ++ ClassClose ∷ rest) ≡ is_bad_row has ms
bad-told no_more has rest = refl
bad-told (silent ts ms t) has rest = bad-told t has rest
bad-told (member ts low high ms t) has rest = ap (λ b. if nat_lt high low then true else b) (bad-told t true rest)

pub closes-told : {ts : List Token} {ms : List (ℕ × ℕ)} → Tells ts ms → (depth : ℕ) (rest : List Token) → closes depth (ts ++ ClassClose ∷ rest) ≡ closes depth rest
closes-told no_more depth rest = refl
closes-told (silent ts ms t) depth rest = closes-told t depth rest
closes-told (member ts low high ms t) depth rest = closes-told t depth rest

pub fault-told : {ts : List Token} {ms : List (ℕ × ℕ)} → Tells ts ms → (depth place : ℕ) (rest : List Token) → fault_from depth place (ts ++ ClassClose ∷ rest) ≡ fault_from depth (place + length ts + 1) rest
fault-told no_more depth place rest = let e : place + 1 ≡ place + 0 + 1 = omega arith in ap (λ p. fault_from depth p rest) e
fault-told (silent ts ms t) depth place rest = fault-told t depth (place + 1) rest ∙ (let e : place + 1 + length ts + 1 ≡ place + length (Silent ∷ ts) + 1 = omega arith in ap (λ p. fault_from depth p rest) e)
fault-told (member ts low high ms t) depth place rest = fault-told t depth (place + 1) rest ∙ (let e : place + 1 + length ts + 1 ≡ place + length (Member low high ∷ ts) + 1 = omega arith in ap (λ p. fault_from depth p rest) e)

pub with-one : (low high : ℕ) (ms : List (ℕ × ℕ)) → with_member low high (any_of ms) ≡ any_of ((low, high) ∷ ms)
with-one low high [] = refl
with-one low high (m ∷ []) = refl
with-one low high (m ∷ n ∷ ms) = refl

pub built-told : {ts : List Token} {ms : List (ℕ × ℕ)} → Tells ts ms → (rest : List Token) → levels_of_tokens (ts ++ ClassClose ∷ rest) ≡ (any_of ms, None) ∷ levels_of_tokens rest
built-told no_more rest = refl
built-told (silent ts ms t) rest = built-told t rest
built-told (member ts low high ms t) rest = ap (on_row (with_member low high)) (built-told t rest) ∙ ap (λ f. (f, None) ∷ levels_of_tokens rest) (with-one low high ms)

-- a prefix of the text is members, and the class's end follows it
pub record IsCut (text : List ℕ) : Type 0 where
  pub front : List ℕ
  pub ms : List (ℕ × ℕ)
  pub tail : List ℕ
  pub joined : text ≡ front ++ close_class ∷ tail
  pub members : AreMembers front ms

-- no class ends in the tokens
pub record IsOpen (ts : List Token) : Type 0 where
  pub bad : (has : Bool) → is_bad_class has ts ≡ true
  pub unclosed : (depth : ℕ) → closes depth ts ≡ false

pub open-none : IsOpen []
open-none = record { bad = λ has. refl; unclosed = λ depth. refl }

pub open-silent : (ts : List Token) → IsOpen ts → IsOpen (Silent ∷ ts)
open-silent ts o = record { bad = o.bad; unclosed = o.unclosed }

pub open-member : (ts : List Token) (low high : ℕ) → IsOpen ts → IsOpen (Member low high ∷ ts)
open-member ts low high o = record { bad = λ has. ap (λ b. if nat_lt high low then true else b) (o.bad true) ∙ both-same (nat_lt high low) true; unclosed = o.unclosed }

pub open-as : (ts us : List Token) → us ≡ ts → IsOpen ts → IsOpen us
open-as ts us e o = subst IsOpen (sym e) o

pub open-alone : {s : List ℕ} {c : ℕ} → IsOne s c → (rest : List ℕ) → begins_range rest ≡ false → IsOpen (tokens_from Class rest) → IsOpen (tokens_from Class (s ++ rest))
open-alone (plain c q k) rest e o = open-as _ _ (plain-tokens c rest false q k e) (open-member _ c c o)
open-alone (quoted c) rest e o = open-as _ _ (quoted-tokens c rest false e) (open-silent _ (open-member _ c c o))

pub open-low : {s : List ℕ} {c : ℕ} → IsOne s c → (rest : List ℕ) → begins_range rest ≡ true → IsOpen (tokens_from (Low c) rest) → IsOpen (tokens_from Class (s ++ rest))
open-low (plain c q k) rest e o = open-as _ _ (plain-tokens c rest true q k e) (open-silent _ o)
open-low (quoted c) rest e o = open-as _ _ (quoted-tokens c rest true e) (open-silent _ (open-silent _ o))

pub open-high : {u : List ℕ} {high : ℕ} → IsOne u high → (low : ℕ) (rest : List ℕ) → IsOpen (tokens_from Class rest) → IsOpen (tokens_from (Ranged low) (u ++ rest))
open-high (plain h q k) low rest o = open-as _ _ (rw (is-not h 39 q) refl) (open-member _ low h o)
open-high (quoted h) low rest o = open-silent _ (open-member _ low h o)

-- no members begin with the class's end
pub one-front : {s : List ℕ} {c : ℕ} → IsOne s c → (t : List ℕ) → Begins close_class (s ++ t) → ⊥
one-front (plain c q k) t b = k b
one-front (quoted c) t b = absurd (omega (arith, b))

pub members-front : {t : List ℕ} {ms : List (ℕ × ℕ)} → AreMembers t ms → Begins close_class t → ⊥
members-front none b = b
members-front (alone s t c ms o free are) b = one-front o t b
members-front (range s u t low high ms o p are) b = one-front o (dash ∷ (u ++ t)) b

-- a `-` that begins members is followed by nothing, or by a character other than `]`
pub dash-front : {s : List ℕ} {c : ℕ} → IsOne s c → (t : List ℕ) (h : ℕ) (r : List ℕ) → (Begins close_class t → ⊥) → s ++ t ≡ dash ∷ h ∷ r → h ≡ close_class → ⊥
dash-front (plain c q k) t h r b e f = let e2 : t ≡ h ∷ r = cc in let g : Begins close_class (h ∷ r) = f in b (subst (Begins close_class) (sym e2) g)
dash-front (quoted c) t h r b e f = let e2 : quote ≡ dash = cc in absurd (omega (arith, e2))

pub members-dash : {t : List ℕ} {ms : List (ℕ × ℕ)} → AreMembers t ms → (h : ℕ) (r : List ℕ) → t ≡ dash ∷ h ∷ r → h ≡ close_class → ⊥
members-dash none h r e = absurd cc
members-dash (alone s t c ms o free are) h r e = dash-front o t h r (members-front are) e
members-dash (range s u t low high ms o p are) h r e = dash-front o (dash ∷ (u ++ t)) h r (λ b. absurd (omega (arith, b))) e

pub free-front : (t tail : List ℕ) (ms : List (ℕ × ℕ)) → AreMembers t ms → begins_range (t ++ close_class ∷ tail) ≡ false → IsNoRange t
free-front [] tail ms are e = tt
free-front (d ∷ []) tail ms are e = tt
free-front (d ∷ h ∷ t) tail ms are e = λ same. members-dash are h t (ap (λ x. x ∷ h ∷ t) same) (not-high h (sym (ap (λ x. (x == 45) && not (h == 93)) same) ∙ e))

abbrev pub Cuts : List ℕ → Type 0
Cuts text = IsCut text ⊎ IsOpen (tokens_from Class text)

pub begin-high : (rest : List ℕ) → begins_range rest ≡ true → (h : ℕ) × (r : List ℕ) × (rest ≡ dash ∷ h ∷ r) × (h ≡ close_class → ⊥)
begin-high [] e = absurd cc
begin-high (d ∷ []) e = absurd cc
begin-high (d ∷ h ∷ r) e =
    let first : d ≡ 45 = eq-is d 45 (both-left (d == 45) (not (h == 93)) e) in
    (h, r, ap (λ x. x ∷ h ∷ r) first, λ same. let f : false ≡ true = sym (ap (λ b. not b) (is-eq h 93 same)) ∙ both-right (d == 45) (not (h == 93)) e in absurd cc)

pub cut-alone : {s : List ℕ} {c : ℕ} → IsOne s c → (rest : List ℕ) → begins_range rest ≡ false → Cuts rest → Cuts (s ++ rest)
cut-alone {s = s} {c = c} o rest e cut = elim cut [
  | inl k ↦ inl (record {
    front = s ++ k.front;
    ms = (c, c) ∷ k.ms;
    tail = k.tail;
    joined = ap (λ x. s ++ x) k.joined ∙ sym (append_assoc s k.front (close_class ∷ k.tail));
    members = alone s k.front c k.ms o (free-front k.front k.tail k.ms k.members (sym (ap begins_range k.joined) ∙ e)) k.members;
  })
  | inr k ↦ inr (open-alone o rest e k)
]

pub cut-range : {s u : List ℕ} {low high : ℕ} → IsOne s low → IsOne u high → (rest : List ℕ) → Cuts rest → Cuts (s ++ dash ∷ (u ++ rest))
cut-range {s = s} {u = u} {low = low} {high = high} o p rest cut = elim cut [
  | inl k ↦ inl (record {
    front = s ++ dash ∷ (u ++ k.front);
    ms = (low, high) ∷ k.ms;
    tail = k.tail;
    joined = ap (λ x. s ++ dash ∷ (u ++ x)) k.joined ∙ ap (λ x. s ++ dash ∷ x) (sym (append_assoc u k.front (close_class ∷ k.tail))) ∙ sym (append_assoc s (dash ∷ (u ++ k.front)) (close_class ∷ k.tail));
    members = range s u k.front low high k.ms o p k.members;
  })
  | inr k ↦ inr (open-low o (dash ∷ (u ++ rest)) (dash-begins p rest) (open-silent _ (open-high p low rest k)))
]

-- if the texts after its first character are split, so is the text
pub cut-by : {s : List ℕ} {c : ℕ} → IsOne s c → (rest : List ℕ) → Cuts rest → ((u r : List ℕ) → rest ≡ dash ∷ (u ++ r) → 0 < length u → Cuts r) → Cuts (s ++ rest)
cut-by {s = s} {c = c} o rest cut cuts = go (begins_range rest) refl
  where
    quoted_high : (r : List ℕ) → rest ≡ dash ∷ quote ∷ r → Cuts (s ++ rest)
    quoted_high [] e = subst (λ x. Cuts (s ++ x)) (sym e) (inr (open-low o (dash ∷ quote ∷ []) refl (open-silent _ (open-silent _ open-none))))
    quoted_high (h ∷ r) e = subst (λ x. Cuts (s ++ x)) (sym e) (cut-range o (quoted h) r (cuts (quote ∷ h ∷ []) r e (omega arith)))

    high : (h : ℕ) (r : List ℕ) → rest ≡ dash ∷ h ∷ r → (h ≡ close_class → ⊥) → (b : Bool) → (h == 39) ≡ b → Cuts (s ++ rest)
    high h r e k true q = quoted_high r (e ∙ ap (λ x. dash ∷ x ∷ r) (eq-is h 39 q))
    high h r e k false q = subst (λ x. Cuts (s ++ x)) (sym e) (cut-range o (plain h (λ same. let f : true ≡ false = sym (is-eq h 39 same) ∙ q in absurd cc) k) r (cuts (h ∷ []) r e (omega arith)))

    go : (b : Bool) → begins_range rest ≡ b → Cuts (s ++ rest)
    go false e = cut-alone o rest e cut
    go true e = let w = begin-high rest e in high w.0 w.1 w.2 w.3 (w.0 == 39) refl

pub eq-not : (a b : ℕ) → (a == b) ≡ false → a ≡ b → ⊥
eq-not a b e same = let f : true ≡ false = sym (is-eq a b same) ∙ e in absurd cc

pub cut-after : {s : List ℕ} {c : ℕ} → IsOne s c → (n : ℕ) (rest : List ℕ) → length rest ≤ n → ((r : List ℕ) → length r ≤ n → Cuts r) → Cuts (s ++ rest)
cut-after o n rest l again = cut-by o rest (again rest l) (λ u r e long. again r (omega (arith, l, ap length e, length-append u r)))

pub class-step : (n c : ℕ) (text : List ℕ) → length text ≤ n → ((r : List ℕ) → length r ≤ n → Cuts r) → Cuts (c ∷ text)
class-step n c text l again = go (c == 93) refl (c == 39) refl
  where
    quote_in : (rest : List ℕ) → text ≡ rest → c ≡ 39 → Cuts (c ∷ text)
    quote_in [] e q = subst (λ x. Cuts (c ∷ x)) (sym e) (subst (λ d. Cuts (d ∷ [])) (sym q) (inr (open-silent [] open-none)))
    quote_in (d ∷ rest) e q = subst (λ x. Cuts (c ∷ x)) (sym e) (subst (λ x. Cuts (x ∷ d ∷ rest)) (sym q) (cut-after (quoted d) n rest (omega (arith, l, ap length e)) again))

    go : (b : Bool) → (c == 93) ≡ b → (q : Bool) → (c == 39) ≡ q → Cuts (c ∷ text)
    go true e q f = inl (record { front = []; ms = []; tail = text; joined = ap (λ x. x ∷ text) (eq-is c 93 e); members = none })
    go false e true f = quote_in text refl (eq-is c 39 f)
    go false e false f = cut-after (plain c (eq-not c 39 f) (eq-not c 93 e)) n text l again

-- a text in a class is split where the class ends, or no class ends in it
pub class-cut : (n : ℕ) (text : List ℕ) → length text ≤ n → Cuts text
class-cut n [] l = inr open-none
class-cut zero (c ∷ text) l = absurd (omega (arith, l))
class-cut (suc n) (c ∷ text) l = class-step n c text (omega (arith, l)) (λ r k. class-cut n r k)
