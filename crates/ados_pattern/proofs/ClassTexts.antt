-- How the tokens of a whole class read it, from its `[` on.
use Rattle.std.proofs.Common.{◌≡◌, ℕ, ◌+◌, ◌≤◌, List, [], ◌∷◌, ◌++◌, length, Bool, true, false, ◌==◌, nat_lt, if◌then◌else◌, None, refl, sym, ◌∙◌, ap, subst, arith, ◌⊎◌, inl, inr}
use Rattle.std.proofs.lemmas.Grind.{common_steps}
use Rattle.ados_pattern.specs.declared.tokens.Mode.TheVariants.{Plain, Begun, Class}
use Rattle.ados_pattern.specs.Tokens.{tokens_from}
use Rattle.ados_pattern.specs.Fault.{closes, fault_from, is_bad_class}
use Rattle.ados_pattern.specs.Form.{Form, Outside}
use Rattle.ados_pattern.specs.Build.{levels_of_tokens, on_row}
use Rattle.ados_pattern.specs.Grammar.{AreMembers, AreUpward, Begins, IsClass, IsClassRow, any_of, within, outside}
use Rattle.ados_pattern.specs.FaultPlace.{IsClassText, within as within_text, outside as outside_text}
use Rattle.ados_pattern.specs.Signs.{close_class, tilde}
use Rattle.ados_pattern.proofs.ClassReads.{Cuts, IsOpen, bad-told, built-told, class-cut, closes-told, eq-not, fault-told, if-false, is-not, is_bad_row, members-told}
use Rattle.ados_pattern.proofs.RuleLemmas.{eq-is}

-- after `[` without a `~`, and after `[~`, all is read alike
pub begun-class : (text : List ℕ) → (Begins tilde text → ⊥) → tokens_from Begun text ≡ tokens_from Class text
begun-class [] b = refl
begun-class (c ∷ text) b = rw (is-not c 126 b) refl

pub begins-after : (t rest : List ℕ) → (Begins tilde t → ⊥) → Begins tilde (t ++ close_class ∷ rest) → ⊥
begins-after [] rest b h = absurd (omega (arith, h))
begins-after (c ∷ t) rest b h = b h

pub begun-within : (t rest : List ℕ) → (Begins tilde t → ⊥) → tokens_from Begun (t ++ close_class ∷ rest) ≡ tokens_from Class (t ++ close_class ∷ rest)
begun-within t rest b = begun-class (t ++ close_class ∷ rest) (begins-after t rest b)

pub text-closes : {s : List ℕ} → IsClassText s → (depth : ℕ) (rest : List ℕ) → closes depth (tokens_from Begun (s ++ close_class ∷ rest)) ≡ closes depth (tokens_from Plain rest)
text-closes (within_text t ms b are) depth rest = let w = members-told are rest in ap (closes depth) (begun-within t rest b ∙ w.joined) ∙ closes-told w.tells depth (tokens_from Plain rest)
text-closes (outside_text t ms are) depth rest = let w = members-told are rest in ap (closes depth) w.joined ∙ closes-told w.tells depth (tokens_from Plain rest)

pub text-fault : {s : List ℕ} → IsClassText s → (depth place : ℕ) (rest : List ℕ) → fault_from depth place (tokens_from Begun (s ++ close_class ∷ rest)) ≡ fault_from depth (place + length s + 1) (tokens_from Plain rest)
text-fault (within_text t ms b are) depth place rest =
    let w = members-told are rest in
    ap (fault_from depth place) (begun-within t rest b ∙ w.joined) ∙ fault-told w.tells depth place (tokens_from Plain rest) ∙ ap (λ n. fault_from depth (place + n + 1) (tokens_from Plain rest)) w.counted
text-fault (outside_text t ms are) depth place rest =
    let w = members-told are rest in
    ap (fault_from depth (place + 1)) w.joined ∙ fault-told w.tells depth (place + 1) (tokens_from Plain rest)
    ∙ (let e : place + 1 + length w.front + 1 ≡ place + length (tilde ∷ t) + 1 = omega (arith, w.counted) in ap (λ p. fault_from depth p (tokens_from Plain rest)) e)

pub class-text : {s : List ℕ} {f : Form} → IsClass s f → IsClassText s
class-text (within t ms b row) = within_text t ms b row.members
class-text (outside t ms row) = outside_text t ms row.members

pub upward-good : (ms : List (ℕ × ℕ)) → AreUpward ms → is_bad_row true ms ≡ false
upward-good [] u = refl
upward-good (m ∷ ms) u = if-false (nat_lt m.1 m.0) true (is_bad_row true ms) (grind (arith, u.0, common_steps)) ∙ upward-good ms u.1

pub row-good : {t : List ℕ} {ms : List (ℕ × ℕ)} → IsClassRow t ms → is_bad_row false ms ≡ false
row-good {ms = []} row = absurd (omega (arith, row.some))
row-good {ms = m ∷ ms} row = upward-good (m ∷ ms) row.upward

pub class-good : {s : List ℕ} {f : Form} → IsClass s f → (rest : List ℕ) → is_bad_class false (tokens_from Begun (s ++ close_class ∷ rest)) ≡ false
class-good (within t ms b row) rest = let w = members-told row.members rest in ap (is_bad_class false) (begun-within t rest b ∙ w.joined) ∙ bad-told w.tells false (tokens_from Plain rest) ∙ row-good row
class-good (outside t ms row) rest = let w = members-told row.members rest in ap (is_bad_class false) w.joined ∙ bad-told w.tells false (tokens_from Plain rest) ∙ row-good row

pub class-built : {s : List ℕ} {f : Form} → IsClass s f → (rest : List ℕ) → levels_of_tokens (tokens_from Begun (s ++ close_class ∷ rest)) ≡ (f, None) ∷ levels_of_tokens (tokens_from Plain rest)
class-built (within t ms b row) rest = let w = members-told row.members rest in ap levels_of_tokens (begun-within t rest b ∙ w.joined) ∙ built-told w.tells (tokens_from Plain rest)
class-built (outside t ms row) rest = let w = members-told row.members rest in ap (λ ts. on_row Outside (levels_of_tokens ts)) w.joined ∙ ap (on_row Outside) (built-told w.tells (tokens_from Plain rest))

pub upward-step : (m : ℕ × ℕ) (b c : Bool) → nat_lt m.1 m.0 ≡ b → (if b then true else c) ≡ false → (m.0 ≤ m.1) × (c ≡ false)
upward-step m true c l e = absurd cc
upward-step m false c l e = (grind (arith, l, common_steps), e)

pub good-upward : (ms : List (ℕ × ℕ)) → is_bad_row true ms ≡ false → AreUpward ms
good-upward [] e = tt
good-upward (m ∷ ms) e = let w = upward-step m (nat_lt m.1 m.0) (is_bad_row true ms) refl e in (w.0, good-upward ms w.1)

pub good-row : (t : List ℕ) (ms : List (ℕ × ℕ)) → AreMembers t ms → is_bad_row false ms ≡ false → IsClassRow t ms
good-row t [] are e = absurd cc
good-row t (m ∷ ms) are e = record { members = are; some = omega arith; upward = good-upward (m ∷ ms) e }

-- a prefix of the text is a class's text, and a class unless it is bad
pub record IsWhole (text : List ℕ) : Type 0 where
  pub front : List ℕ
  pub tail : List ℕ
  pub joined : text ≡ front ++ close_class ∷ tail
  pub kept : IsClassText front
  pub class : is_bad_class false (tokens_from Begun text) ≡ false → (f : Form) × IsClass front f

pub whole-within : (text : List ℕ) → (Begins tilde text → ⊥) → Cuts text → IsWhole text ⊎ IsOpen (tokens_from Begun text)
whole-within text b cut = elim cut [
  | inr o ↦ inr (subst IsOpen (sym (begun-class text b)) o)
  | inl k ↦
      let c : Begins tilde k.front → ⊥ = front-begins k.front k.tail text k.joined b in
      let w = members-told k.members k.tail in
      inl (record {
        front = k.front;
        tail = k.tail;
        joined = k.joined;
        kept = within_text k.front k.ms c k.members;
        class = λ e. (any_of k.ms, within k.front k.ms c (good-row k.front k.ms k.members (sym (ap (is_bad_class false) (begun-class text b ∙ ap (tokens_from Class) k.joined ∙ w.joined) ∙ bad-told w.tells false (tokens_from Plain k.tail)) ∙ e)));
      })
]
  where
    front-begins : (front tail text : List ℕ) → text ≡ front ++ close_class ∷ tail → (Begins tilde text → ⊥) → Begins tilde front → ⊥
    front-begins [] tail text e b h = h
    front-begins (d ∷ front) tail text e b h = b (subst (Begins tilde) (sym e) h)

pub whole-outside : (text : List ℕ) → Cuts text → IsWhole (tilde ∷ text) ⊎ IsOpen (tokens_from Begun (tilde ∷ text))
whole-outside text cut = elim cut [
  | inr o ↦ inr (record { bad = o.bad; unclosed = o.unclosed })
  | inl k ↦
      let w = members-told k.members k.tail in
      inl (record {
        front = tilde ∷ k.front;
        tail = k.tail;
        joined = ap (λ x. tilde ∷ x) k.joined;
        kept = outside_text k.front k.ms k.members;
        class = λ e. (Outside (any_of k.ms), outside k.front k.ms (good-row k.front k.ms k.members (sym (ap (is_bad_class false) (ap (tokens_from Class) k.joined ∙ w.joined) ∙ bad-told w.tells false (tokens_from Plain k.tail)) ∙ e)));
      })
]

-- after `[` comes a class's text, or no class ends
pub whole-cut : (text : List ℕ) → IsWhole text ⊎ IsOpen (tokens_from Begun text)
whole-cut [] = whole-within [] (λ b. b) (class-cut 0 [] (omega arith))
whole-cut (c ∷ text) = go (c == 126) refl
  where
    go : (b : Bool) → (c == 126) ≡ b → IsWhole (c ∷ text) ⊎ IsOpen (tokens_from Begun (c ∷ text))
    go true e = subst (λ d. IsWhole (d ∷ text) ⊎ IsOpen (tokens_from Begun (d ∷ text))) (sym (eq-is c 126 e)) (whole-outside text (class-cut (length text) text (omega arith)))
    go false e = whole-within (c ∷ text) (eq-not c 126 e) (class-cut (length (c ∷ text)) (c ∷ text) (omega arith))
