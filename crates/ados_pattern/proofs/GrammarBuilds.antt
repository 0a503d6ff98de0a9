-- A text without a fault is written by the grammar, as what its tokens say.
use Rattle.std.proofs.Common.{◌≡◌, ℕ, zero, suc, ◌+◌, ◌-◌, ◌<◌, ◌≤◌, List, [], ◌∷◌, ◌++◌, length, Bool, true, false, ◌==◌, if◌then◌else◌, Option, Some, None, refl, sym, ◌∙◌, ap, subst, arith, append_assoc, length-append, inl, inr}
use Rattle.std.proofs.lemmas.List.{append-nil}
use Rattle.std.proofs.Math.Bool.{not}
use Rattle.std.proofs.lemmas.Bool.{not-false}
use Rattle.ados_pattern.specs.declared.tokens.Mode.TheVariants.{Plain, Begun}
use Rattle.ados_pattern.specs.Tokens.{tokens_from, tokens_of}
use Rattle.ados_pattern.specs.Fault.{closes, fault_from, has_nothing, is_bad_class}
use Rattle.ados_pattern.specs.FaultPlace.{EndsRow}
use Rattle.ados_pattern.specs.Form.{Form, Empty, Char, Any, Many, Other, Then, Either}
use Rattle.ados_pattern.specs.Build.{Level, levels_of_tokens, with_group, item_many, item_other, on_row, with_bar, form_of_levels, form_of_tokens, whole_row, with_item}
use Rattle.ados_pattern.specs.Grammar.{IsPattern, Kind, Says, Alternatives, Row, Item, character, quoted, any, nothing, many, other, group, class, end, item, one, either}
use Rattle.ados_pattern.specs.Signs.{bar, close_class, close_group, hash, open_class, open_group, percent, question, quote, tilde}
use Rattle.ados_pattern.proofs.ClassTexts.{class-built, text-fault}
use Rattle.ados_pattern.proofs.FirstFaults.{ends-nothing}
use Rattle.ados_pattern.proofs.GrammarReads.{pattern-level}
use Rattle.ados_pattern.proofs.Views.{View, view, at_end, at_hanging, at_quoted, at_open_class, at_class, at_any, at_nothing, at_many, at_other, at_bar, at_open, at_close, at_char, char-tokens}

-- a row, and alternatives after it
pub record Parted (text : List ℕ) (row rest : Form) : Type 0 where
  pub front : List ℕ
  pub tail : List ℕ
  pub joined : text ≡ front ++ bar ∷ tail
  pub first : Says Row front row
  pub second : Says Alternatives tail rest

abbrev pub IsReady : List ℕ → Level → Type 0
IsReady text (row, None) = Says Row text row
IsReady text (row, Some rest) = Parted text row rest

-- the levels of a text inside `d` groups
pub data Levels : ℕ → List ℕ → List Level → Type 0 where
  last : (d : ℕ) (text : List ℕ) (l : Level) → IsReady text l → Levels d text (l ∷ [])
  above : (d : ℕ) (text front tail : List ℕ) (l : Level) (ls : List Level) → text ≡ front ++ close_group ∷ tail → IsReady front l → Levels d tail ls → Levels (suc d) text (l ∷ ls)

pub ready-says : (text : List ℕ) (row : Form) (rest : Option Form) → IsReady text (row, rest) → Says Alternatives text (whole_row row rest)
ready-says text row None r = one text row r
ready-says text row (Some rest) r = let P : List ℕ → Type 0 = λ t. Says Alternatives t (Either row rest) in subst P (sym r.joined) (either r.front r.tail row rest r.first r.second)

-- what may be put before a row with which a text begins, if what follows ends the row
abbrev pub Fronts : List ℕ → List ℕ → (Form → Form) → Type 0
Fronts pre text change = (s tail : List ℕ) (f : Form) → text ≡ s ++ tail → EndsRow tail → Says Row s f → Says Row (pre ++ s) (change f)

pub ready-front : (pre text : List ℕ) (change : Form → Form) → Fronts pre text change → (s tail : List ℕ) (row : Form) (rest : Option Form) → text ≡ s ++ tail → EndsRow tail → IsReady s (row, rest) → IsReady (pre ++ s) (change row, rest)
ready-front pre text change put s tail row None e ends r = put s tail row e ends r
ready-front pre text change put s tail row (Some rest) e ends r = record {
  front = pre ++ r.front;
  tail = r.tail;
  joined = ap (λ x. pre ++ x) r.joined ∙ sym (append_assoc pre r.front (bar ∷ r.tail));
  first = put r.front (bar ∷ (r.tail ++ tail)) row (e ∙ ap (λ x. x ++ tail) r.joined ∙ append_assoc r.front (bar ∷ r.tail) tail) (inl refl) r.first;
  second = r.second;
}

pub levels-front : (pre : List ℕ) (change : Form → Form) {d : ℕ} {text : List ℕ} {ls : List Level} → Levels d text ls → Fronts pre text change → Levels d (pre ++ text) (on_row change ls)
levels-front pre change (last d text l r) put = last d (pre ++ text) (change l.0, l.1) (ready-front pre text change put text [] l.0 l.1 (sym (append-nil text)) tt r)
levels-front pre change (above d text front tail l ls e r below) put =
    above d (pre ++ text) (pre ++ front) tail (change l.0, l.1) ls (ap (λ x. pre ++ x) e ∙ sym (append_assoc pre front (close_group ∷ tail)))
    (ready-front pre text change put front (close_group ∷ tail) l.0 l.1 e (inr refl) r) below

pub levels-item : {d : ℕ} {text : List ℕ} {ls : List Level} (pre : List ℕ) (f : Form) → Says Item pre f → Levels d text ls → Levels d (pre ++ text) (with_item f ls)
levels-item pre f i w = levels-front pre (Then f) w (λ s tail g e ends r. item pre s f g i r)

-- `#` and `~` before a row that is not empty
abbrev pub OnFirst : ℕ → (Form → Form) → Kind → List ℕ → Form → Type 0
OnFirst sign change Row text f = 0 < length text → Says Row (sign ∷ text) (change f)
OnFirst sign change kind text f = Unit {0}

pub first-marked : {k : Kind} {text : List ℕ} {f : Form} (sign : ℕ) (change mark : Form → Form) → ((f g : Form) → change (Then f g) ≡ Then (mark f) g)
    → ((t : List ℕ) (f : Form) → Says Item t f → Says Item (sign ∷ t) (mark f)) → Says k text f → OnFirst sign change k text f
first-marked sign change mark first put (character c e) = tt
first-marked sign change mark first put (quoted c) = tt
first-marked sign change mark first put any = tt
first-marked sign change mark first put nothing = tt
first-marked sign change mark first put (many t f i) = tt
first-marked sign change mark first put (other t f i) = tt
first-marked sign change mark first put (group t f a) = tt
first-marked sign change mark first put (class t f c) = tt
first-marked sign change mark first put end = λ l. absurd (omega (arith, l))
first-marked sign change mark first put (item s t f g i r) = λ l. subst (Says Row (sign ∷ s ++ t)) (sym (first f g)) (item (sign ∷ s) t (mark f) g (put s f i) r)
first-marked sign change mark first put (one t f r) = tt
first-marked sign change mark first put (either s t f g r a) = tt

pub some-front : (text s tail : List ℕ) → has_nothing (tokens_from Plain text) ≡ false → text ≡ s ++ tail → EndsRow tail → 0 < length s
some-front text [] tail e j ends = let f : true ≡ false = sym (ap (λ x. has_nothing (tokens_from Plain x)) j ∙ ends-nothing tail ends) ∙ e in absurd cc
some-front text (c ∷ s) tail e j ends = omega arith

-- a group at the beginning
pub levels-group : {d : ℕ} {text : List ℕ} {ls : List Level} → Levels d text ls → (e : ℕ) → d ≡ e + 1 → closes 0 (tokens_from Plain text) ≡ true → Levels e (open_group ∷ text) (with_group ls)
levels-group (last d text l r) e k c = let f : false ≡ true = sym (pattern-level text (whole_row l.0 l.1) (ready-says text l.0 l.1 r)) ∙ c in absurd cc
levels-group (above d text front tail l ls j r below) e k c =
    let same : d ≡ e = omega (arith, k) in
    let P : List ℕ → Type 0 = λ t. Levels e t (with_group (l ∷ ls)) in
    subst P (ap (λ x. open_group ∷ x) (append_assoc front (close_group ∷ []) tail ∙ sym j))
    (levels-item (open_group ∷ front ++ close_group ∷ []) (whole_row l.0 l.1) (group front (whole_row l.0 l.1) (ready-says front l.0 l.1 r)) (subst (λ n. Levels n tail ls) same below))

-- a `|` at the beginning
pub levels-bar : {d : ℕ} {text : List ℕ} {ls : List Level} → Levels d text ls → Levels d (bar ∷ text) (with_bar ls)
levels-bar (last d text l r) = last d (bar ∷ text) (Empty, Some (whole_row l.0 l.1)) (record { front = []; tail = text; joined = refl; first = end; second = ready-says text l.0 l.1 r })
levels-bar (above d text front tail l ls j r below) =
    above d (bar ∷ text) (bar ∷ front) tail (Empty, Some (whole_row l.0 l.1)) ls (ap (λ x. bar ∷ x) j)
    (record { front = []; tail = front; joined = refl; first = end; second = ready-says front l.0 l.1 r }) below

-- what is left if a test found no fault
pub by-none : (b : Bool) (place : ℕ) (x : Option ℕ) → (if b then Some place else x) ≡ None → (b ≡ false) × (x ≡ None)
by-none true place x e = absurd cc
by-none false place x e = (refl, e)

abbrev pub Builds : ℕ → List ℕ → Type 0
Builds n text = length text ≤ n → (d place : ℕ) → fault_from d place (tokens_from Plain text) ≡ None → Levels d text (levels_of_tokens (tokens_from Plain text))

pub levels-close : (d place : ℕ) (rest : List ℕ) → fault_from d place (tokens_from Plain (close_group ∷ rest)) ≡ None → (fault_from (d - 1) (place + 1) (tokens_from Plain rest) ≡ None → Levels (d - 1) rest (levels_of_tokens (tokens_from Plain rest))) → Levels d (close_group ∷ rest) ((Empty, None) ∷ levels_of_tokens (tokens_from Plain rest))
levels-close zero place rest e again = absurd cc
levels-close (suc d) place rest e again =
    let w = by-none (suc d == 0) place (fault_from (suc d - 1) (place + 1) (tokens_from Plain rest)) e in
    let k : suc d - 1 ≡ d = omega arith in
    above d (close_group ∷ rest) [] rest (Empty, None) (levels_of_tokens (tokens_from Plain rest)) refl end (subst (λ n. Levels n rest (levels_of_tokens (tokens_from Plain rest))) k (again w.1))

pub build-step : {text : List ℕ} → View text → (n : ℕ) → ((r : List ℕ) → Builds n r) → Builds (suc n) text
build-step at_end n again l d place e = last d [] (Empty, None) end
build-step at_hanging n again l d place e = absurd cc
build-step (at_quoted c rest) n again l d place e = levels-item (quote ∷ c ∷ []) (Char c) (quoted c) (again rest (omega (arith, l)) d (place + 1 + 1) e)
build-step (at_open_class rest o) n again l d place e =
    let w = by-none (is_bad_class false (tokens_from Begun rest)) place (fault_from d (place + 1) (tokens_from Begun rest)) e in
    let f : true ≡ false = sym (o.bad false) ∙ w.0 in absurd cc
build-step (at_class s rest k g) n again l d place e =
    let w = by-none (is_bad_class false (tokens_from Begun (s ++ close_class ∷ rest))) place (fault_from d (place + 1) (tokens_from Begun (s ++ close_class ∷ rest))) e in
    let c = g w.0 in
    let P : List ℕ → Type 0 = λ t. Levels d t (with_group (levels_of_tokens (tokens_from Begun (s ++ close_class ∷ rest)))) in
    subst P (ap (λ x. open_class ∷ x) (append_assoc s (close_class ∷ []) rest))
    (subst (λ ls. Levels d ((open_class ∷ s ++ close_class ∷ []) ++ rest) (with_group ls)) (sym (class-built c.1 rest))
    (levels-item (open_class ∷ s ++ close_class ∷ []) c.0 (class s c.0 c.1) (again rest (omega (arith, l, length-append s (close_class ∷ rest))) d (place + 1 + length s + 1) (sym (text-fault k d (place + 1) rest) ∙ w.1))))
build-step (at_any rest) n again l d place e = levels-item (question ∷ []) Any any (again rest (omega (arith, l)) d (place + 1) e)
build-step (at_nothing rest) n again l d place e = levels-item (percent ∷ []) Empty nothing (again rest (omega (arith, l)) d (place + 1) e)
build-step (at_many rest) n again l d place e =
    let w = by-none (has_nothing (tokens_from Plain rest)) place (fault_from d (place + 1) (tokens_from Plain rest)) e in
    levels-front (hash ∷ []) item_many (again rest (omega (arith, l)) d (place + 1) w.1) (λ s tail f j ends r. first-marked hash item_many Many (λ f g. refl) many r (some-front rest s tail w.0 j ends))
build-step (at_other rest) n again l d place e =
    let w = by-none (has_nothing (tokens_from Plain rest)) place (fault_from d (place + 1) (tokens_from Plain rest)) e in
    levels-front (tilde ∷ []) item_other (again rest (omega (arith, l)) d (place + 1) w.1) (λ s tail f j ends r. first-marked tilde item_other Other (λ f g. refl) other r (some-front rest s tail w.0 j ends))
build-step (at_bar rest) n again l d place e = levels-bar (again rest (omega (arith, l)) d (place + 1) e)
build-step (at_open rest) n again l d place e =
    let w = by-none (not (closes 0 (tokens_from Plain rest))) place (fault_from (d + 1) (place + 1) (tokens_from Plain rest)) e in
    levels-group (again rest (omega (arith, l)) (d + 1) (place + 1) w.1) d refl (not-false (closes 0 (tokens_from Plain rest)) w.0)
build-step (at_close rest) n again l d place e = levels-close d place rest e (again rest (omega (arith, l)) (d - 1) (place + 1))
build-step (at_char c rest k) n again l d place e =
    subst (Levels d (c ∷ rest)) (sym (ap levels_of_tokens (char-tokens c rest k))) (levels-item (c ∷ []) (Char c) (character c k) (again rest (omega (arith, l)) d (place + 1) (sym (ap (fault_from d place) (char-tokens c rest k)) ∙ e)))

pub build-all : (n : ℕ) (text : List ℕ) → Builds n text
build-all zero [] l d place e = last d [] (Empty, None) end
build-all zero (c ∷ text) l d place e = absurd (omega (arith, l))
build-all (suc n) text l d place e = build-step (view text) n (λ r. build-all n r) l d place e

pub level-says : {d : ℕ} {text : List ℕ} {ls : List Level} → Levels d text ls → d ≡ 0 → IsPattern text (form_of_levels ls)
level-says (last d text l r) e = ready-says text l.0 l.1 r
level-says (above d text front tail l ls j r below) e = absurd (omega (arith, e))

-- a text without a fault is a pattern, and says what its tokens say
pub kept-pattern : (text : List ℕ) → fault_from 0 0 (tokens_of text) ≡ None → IsPattern text (form_of_tokens (tokens_of text))
kept-pattern text e = level-says (build-all (length text) text (omega arith) 0 0 e) refl
