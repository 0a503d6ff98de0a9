-- What the grammar writes is read with its value.
use Rattle.std.proofs.Common.{◌≡◌, ℕ, suc, ℤ, pos, neg_ℤ, ◌^◌, ◌<◌, ◌≤◌, List, [], ◌∷◌, ◌++◌, if◌then◌else◌, Option, Some, refl, ◌∙◌, ap, arith}
use Rattle.std.proofs.lemmas.Bool.{le-leb, lt-leb}
use Rattle.ados_env.specs.declared.operators.Operator.{Operator as BinaryOperator}
use Rattle.ados_env.specs.declared.operators.Operator.TheVariants.{Plus, Minus, Times, Divide, Modulo, ShiftLeft, ShiftRight, And, Xor, Equal, Or}
use Rattle.ados_env.specs.declared.operators.Prefix.TheVariants as prefix
use Rattle.ados_env.specs.declared.tokens.Token.{Token}
use Rattle.ados_env.specs.declared.tokens.Token.TheVariants as token
use Rattle.ados_env.specs.declared.expressions.Wait.{Wait}
use Rattle.ados_env.specs.declared.expressions.Wait.TheVariants.{Bracket, Prefix, Operator}
use Rattle.ados_env.specs.Operators.{binary_level, value_of_operation}
use Rattle.ados_env.specs.Expression.{State, wanting, having, settled_value, waits_left, closed, with_token, state_after, ended, whole_value}
use Rattle.ados_env.specs.Grammar.{Writes, number, least, negative, complement, bracket, operation, higher}

-- nothing that waits acts on a value before an operator of a level does
abbrev pub Stays : ℕ → List Wait → Type 0
Stays level [] = Unit {0}
Stays level (Bracket ∷ waits) = Unit {0}
Stays level (Prefix sign ∷ waits) = 7 ≤ level
Stays level (Operator first operator ∷ waits) = binary_level operator < level

-- a state that has the value, as far as operators of a level and weaker ones see it
pub record HasValue (level : ℕ) (v : Option ℤ) (waits : List Wait) (state : State) : Type 0 where
  pub value : Option ℤ
  pub left : List Wait
  pub is : state ≡ having value left
  pub settles : (m : ℕ) → m ≤ level → settled_value m value left ≡ settled_value m v waits
  pub leaves : (m : ℕ) → m ≤ level → waits_left m left ≡ waits_left m waits

pub levels : (operator : BinaryOperator) → binary_level operator ≤ 6
levels Times = omega arith
levels Divide = omega arith
levels Modulo = omega arith
levels Plus = omega arith
levels Minus = omega arith
levels ShiftLeft = omega arith
levels ShiftRight = omega arith
levels And = omega arith
levels Xor = omega arith
levels Equal = omega arith
levels Or = omega arith

pub tokens-after : (state : State) (ts us : List Token) → state_after state (ts ++ us) ≡ state_after (state_after state ts) us
tokens-after state [] us = refl
tokens-after state (t ∷ ts) us = tokens-after (with_token t state) ts us

pub stays-higher : (level : ℕ) (waits : List Wait) → Stays level waits → Stays (suc level) waits
stays-higher level [] s = s
stays-higher level (Bracket ∷ waits) s = s
stays-higher level (Prefix sign ∷ waits) s = omega (arith, s)
stays-higher level (Operator first operator ∷ waits) s = omega (arith, s)

pub stays-value : (level : ℕ) (v : Option ℤ) (waits : List Wait) → level ≤ 6 → Stays level waits → settled_value level v waits ≡ v
stays-value level v [] l s = refl
stays-value level v (Bracket ∷ waits) l s = refl
stays-value level v (Prefix sign ∷ waits) l s = absurd (omega (arith, l, s))
stays-value level v (Operator first operator ∷ waits) l s =
    ap (λ b. if b then settled_value level (value_of_operation operator first v) waits else v) (lt-leb level (binary_level operator) s)

pub stays-left : (level : ℕ) (waits : List Wait) → level ≤ 6 → Stays level waits → waits_left level waits ≡ waits
stays-left level [] l s = refl
stays-left level (Bracket ∷ waits) l s = refl
stays-left level (Prefix sign ∷ waits) l s = absurd (omega (arith, l, s))
stays-left level (Operator first operator ∷ waits) l s =
    ap (λ b. if b then waits_left level waits else Operator first operator ∷ waits) (lt-leb level (binary_level operator) s)

-- an operator acts for each that is not stronger
pub acts-value : (m : ℕ) (operator : BinaryOperator) (x y : Option ℤ) (waits : List Wait) → m ≤ binary_level operator
    → settled_value m y (Operator x operator ∷ waits) ≡ settled_value m (value_of_operation operator x y) waits
acts-value m operator x y waits l =
    ap (λ b. if b then settled_value m (value_of_operation operator x y) waits else y) (le-leb m (binary_level operator) l)

pub acts-left : (m : ℕ) (operator : BinaryOperator) (x : Option ℤ) (waits : List Wait) → m ≤ binary_level operator
    → waits_left m (Operator x operator ∷ waits) ≡ waits_left m waits
acts-left m operator x waits l =
    ap (λ b. if b then waits_left m waits else Operator x operator ∷ waits) (le-leb m (binary_level operator) l)

-- the state after a bracket
pub after-bracket : (ts : List Token) (v : Option ℤ) (waits : List Wait) → HasValue 1 v (Bracket ∷ waits) (state_after (wanting (Bracket ∷ waits)) ts)
    → state_after (wanting waits) (token.Open ∷ (ts ++ token.Close ∷ [])) ≡ having v waits
after-bracket ts v waits r =
    tokens-after (wanting (Bracket ∷ waits)) ts (token.Close ∷ [])
    ∙ ap (with_token token.Close) r.is
    ∙ ap (λ x. closed x (waits_left 0 r.left)) (r.settles 0 (omega arith))
    ∙ ap (closed v) (r.leaves 0 (omega arith))

-- the state after a first value and an operator
pub after-operator : (operator : BinaryOperator) (front back : List Token) (x : Option ℤ) (waits : List Wait) → Stays (binary_level operator) waits
    → HasValue (binary_level operator) x waits (state_after (wanting waits) front)
    → state_after (wanting waits) (front ++ token.Operator operator ∷ back) ≡ state_after (wanting (Operator x operator ∷ waits)) back
after-operator operator front back x waits s r =
    tokens-after (wanting waits) front (token.Operator operator ∷ back)
    ∙ ap (λ state. state_after state (token.Operator operator ∷ back)) r.is
    ∙ ap (λ z. state_after (wanting (Operator z operator ∷ waits_left (binary_level operator) r.left)) back)
    (r.settles (binary_level operator) (omega arith) ∙ stays-value (binary_level operator) x waits (levels operator) s)
    ∙ ap (λ ws. state_after (wanting (Operator x operator ∷ ws)) back)
    (r.leaves (binary_level operator) (omega arith) ∙ stays-left (binary_level operator) waits (levels operator) s)

pub reads : {level : ℕ} {ts : List Token} {v : Option ℤ} → Writes level ts v → (waits : List Wait) → Stays level waits
    → HasValue level v waits (state_after (wanting waits) ts)
reads (number n) waits s = record { value = Some n; left = waits; is = refl; settles = λ m l. refl; leaves = λ m l. refl }
reads least waits s = record { value = Some (neg_ℤ (pos (2 ^ 31))); left = waits; is = refl; settles = λ m l. refl; leaves = λ m l. refl }
reads (negative us u w) waits s =
    let r = reads w (Prefix prefix.Negative ∷ waits) (omega arith) in
    record { value = r.value; left = r.left; is = r.is; settles = r.settles; leaves = r.leaves }
reads (complement us u w) waits s =
    let r = reads w (Prefix prefix.Complement ∷ waits) (omega arith) in
    record { value = r.value; left = r.left; is = r.is; settles = r.settles; leaves = r.leaves }
reads (bracket us u w) waits s =
    record { value = u; left = waits; is = after-bracket us u waits (reads w (Bracket ∷ waits) tt); settles = λ m l. refl; leaves = λ m l. refl }
reads (operation operator front back x y wx wy) waits s =
    let r = reads wy (Operator x operator ∷ waits) (omega arith) in
    record {
      value = r.value;
      left = r.left;
      is = after-operator operator front back x waits s (reads wx waits s) ∙ r.is;
      settles = λ m l. r.settles m (omega (arith, l)) ∙ acts-value m operator x y waits l;
      leaves = λ m l. r.leaves m (omega (arith, l)) ∙ acts-left m operator x waits l;
    }
reads (higher n us u w) waits s =
    let r = reads w waits (stays-higher n waits s) in
    record { value = r.value; left = r.left; is = r.is; settles = λ m l. r.settles m (omega (arith, l)); leaves = λ m l. r.leaves m (omega (arith, l)) }

pub grammar_read : (ts : List Token) (v : Option ℤ) → Writes 1 ts v → ended (state_after (wanting []) ts) ≡ whole_value v []
grammar_read ts v w =
    let r = reads w [] tt in
    ap ended r.is
    ∙ ap (λ x. whole_value x (waits_left 0 r.left)) (r.settles 0 (omega arith))
    ∙ ap (whole_value v) (r.leaves 0 (omega arith))
