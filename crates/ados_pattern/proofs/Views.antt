-- What a text begins with, outside of a class.
use Rattle.std.proofs.Common.{◌≡◌, ℕ, List, [], ◌∷◌, ◌++◌, Bool, true, false, ◌==◌, ◌||◌, refl, sym, ◌∙◌, ap, subst, ◌⊎◌, inl, inr}
use Rattle.std.proofs.lemmas.Bool.{or_parts}
use Rattle.ados_pattern.specs.declared.tokens.Token.TheVariants.{Char}
use Rattle.ados_pattern.specs.declared.tokens.Mode.TheVariants.{Plain, Begun}
use Rattle.ados_pattern.specs.Tokens.{tokens_from}
use Rattle.ados_pattern.specs.Fault.{is_bad_class}
use Rattle.ados_pattern.specs.Form.{Form}
use Rattle.ados_pattern.specs.Grammar.{IsClass}
use Rattle.ados_pattern.specs.FaultPlace.{IsClassText}
use Rattle.ados_pattern.specs.Signs.{hash, percent, quote, open_group, close_group, question, open_class, close_class, bar, tilde, is_frame, is_sign}
use Rattle.ados_pattern.proofs.ClassReads.{IsOpen}
use Rattle.ados_pattern.proofs.ClassTexts.{IsWhole, whole-cut}
use Rattle.ados_pattern.proofs.RuleLemmas.{eq-is}

-- the byte is none of the signs
pub record IsNone (c : ℕ) : Type 0 where
  pub no_quote : (c == 39) ≡ false
  pub no_class : (c == 91) ≡ false
  pub no_any : (c == 63) ≡ false
  pub no_nothing : (c == 37) ≡ false
  pub no_many : (c == 35) ≡ false
  pub no_other : (c == 126) ≡ false
  pub no_bar : (c == 124) ≡ false
  pub no_open : (c == 40) ≡ false
  pub no_close : (c == 41) ≡ false

pub none-of : (c : ℕ) → is_sign c ≡ false → IsNone c
none-of c e =
    let e2 = (or_parts (c == 39) _ e).1 in
    let e3 = (or_parts (c == 91) _ e2).1 in
    let e4 = (or_parts (c == 63) _ e3).1 in
    let e5 = (or_parts (c == 37) _ e4).1 in
    let e6 = (or_parts (c == 35) _ e5).1 in
    let e7 = (or_parts (c == 126) _ e6).1 in
    let e8 = (or_parts (c == 124) _ e7).1 in
    record {
      no_quote = (or_parts (c == 39) _ e).0;
      no_class = (or_parts (c == 91) _ e2).0;
      no_any = (or_parts (c == 63) _ e3).0;
      no_nothing = (or_parts (c == 37) _ e4).0;
      no_many = (or_parts (c == 35) _ e5).0;
      no_other = (or_parts (c == 126) _ e6).0;
      no_bar = (or_parts (c == 124) _ e7).0;
      no_open = (or_parts (c == 40) (c == 41) e8).0;
      no_close = (or_parts (c == 40) (c == 41) e8).1;
    }

pub char-tokens : (c : ℕ) (rest : List ℕ) → is_sign c ≡ false → tokens_from Plain (c ∷ rest) ≡ Char c ∷ tokens_from Plain rest
char-tokens c rest e = let w = none-of c e in rw (w.no_quote, w.no_class, w.no_any, w.no_nothing, w.no_many, w.no_other, w.no_bar, w.no_open, w.no_close) refl

pub char-frame : (c : ℕ) → is_sign c ≡ false → is_frame c ≡ false
char-frame c e = let w = none-of c e in rw (w.no_quote, w.no_class, w.no_open, w.no_close) refl

-- a text by what it begins with
pub data View : List ℕ → Type 0 where
  at_end : View []
  at_hanging : View (quote ∷ [])
  at_quoted : (c : ℕ) (rest : List ℕ) → View (quote ∷ c ∷ rest)
  at_open_class : (rest : List ℕ) → IsOpen (tokens_from Begun rest) → View (open_class ∷ rest)
  at_class : (s rest : List ℕ) → IsClassText s → (is_bad_class false (tokens_from Begun (s ++ close_class ∷ rest)) ≡ false → (f : Form) × IsClass s f) → View (open_class ∷ (s ++ close_class ∷ rest))
  at_any : (rest : List ℕ) → View (question ∷ rest)
  at_nothing : (rest : List ℕ) → View (percent ∷ rest)
  at_many : (rest : List ℕ) → View (hash ∷ rest)
  at_other : (rest : List ℕ) → View (tilde ∷ rest)
  at_bar : (rest : List ℕ) → View (bar ∷ rest)
  at_open : (rest : List ℕ) → View (open_group ∷ rest)
  at_close : (rest : List ℕ) → View (close_group ∷ rest)
  at_char : (c : ℕ) (rest : List ℕ) → is_sign c ≡ false → View (c ∷ rest)

pub class-view : (rest : List ℕ) → IsWhole rest ⊎ IsOpen (tokens_from Begun rest) → View (open_class ∷ rest)
class-view rest cut = elim cut [
  | inr o ↦ at_open_class rest o
  | inl w ↦ subst (λ x. View (open_class ∷ x)) (sym w.joined) (at_class w.front w.tail w.kept (λ e. w.class (ap (λ x. is_bad_class false (tokens_from Begun x)) w.joined ∙ e)))
]

pub quote-view : (rest : List ℕ) → View (quote ∷ rest)
quote-view [] = at_hanging
quote-view (c ∷ rest) = at_quoted c rest

-- the view of a byte that is the sign, otherwise by the other signs
pub sign-view : (c k : ℕ) (rest : List ℕ) → View (k ∷ rest) → ((c == k) ≡ false → View (c ∷ rest)) → View (c ∷ rest)
sign-view c k rest v others = go (c == k) refl
  where
    go : (b : Bool) → (c == k) ≡ b → View (c ∷ rest)
    go true e = subst (λ d. View (d ∷ rest)) (sym (eq-is c k e)) v
    go false e = others e

pub none-is : (a b : Bool) → a ≡ false → b ≡ false → (a || b) ≡ false
none-is true b e f = e
none-is false b e f = f

pub view : (text : List ℕ) → View text
view [] = at_end
view (c ∷ rest) =
    sign-view c quote rest (quote-view rest) (λ e1.
    sign-view c open_class rest (class-view rest (whole-cut rest)) (λ e2.
    sign-view c question rest (at_any rest) (λ e3.
    sign-view c percent rest (at_nothing rest) (λ e4.
    sign-view c hash rest (at_many rest) (λ e5.
    sign-view c tilde rest (at_other rest) (λ e6.
    sign-view c bar rest (at_bar rest) (λ e7.
    sign-view c open_group rest (at_open rest) (λ e8.
    sign-view c close_group rest (at_close rest) (λ e9.
    at_char c rest
    (none-is _ _ e1 (none-is _ _ e2 (none-is _ _ e3 (none-is _ _ e4 (none-is _ _ e5 (none-is _ _ e6 (none-is _ _ e7 (none-is _ _ e8 e9)))))))))))))))))
