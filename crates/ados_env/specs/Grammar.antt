-- Which tokens write an expression, and its value: the grammar.
use Rattle.std.specs.Prelude.{ℕ, suc, ℤ, pos, neg_ℤ, ◌^◌, List, [], ◌∷◌, ◌++◌, Option, Some}
use Rattle.ados_env.specs.declared.operators.Operator.{Operator}
use Rattle.ados_env.specs.declared.operators.Operator.TheVariants.{Minus}
use Rattle.ados_env.specs.declared.operators.Prefix.TheVariants.{Negative, Complement}
use Rattle.ados_env.specs.declared.tokens.Token.{Token}
use Rattle.ados_env.specs.declared.tokens.Token.TheVariants as token
use Rattle.ados_env.specs.Operators.{binary_level, value_of_operation, prefixed_value}

-- These tokens write this value (none: it has a fault) at a level: a value with its prefixes at 7, operators at theirs. What is before an
-- operator may have others of its level, and what is after it only stronger ones; so equal ones act from the left.
pub data Writes : ℕ → List Token → Option ℤ → Type 0 where
  number : (n : ℤ) → Writes 7 (token.Number n ∷ []) (Some n)
  least : Writes 7 (token.Operator Minus ∷ token.Limit ∷ []) (Some (neg_ℤ (pos (2 ^ 31))))
  negative : (ts : List Token) (v : Option ℤ) → Writes 7 ts v → Writes 7 (token.Operator Minus ∷ ts) (prefixed_value Negative v)
  complement : (ts : List Token) (v : Option ℤ) → Writes 7 ts v → Writes 7 (token.Complement ∷ ts) (prefixed_value Complement v)
  bracket : (ts : List Token) (v : Option ℤ) → Writes 1 ts v → Writes 7 (token.Open ∷ (ts ++ token.Close ∷ [])) v
  operation : (operator : Operator) (front back : List Token) (x y : Option ℤ) → Writes (binary_level operator) front x → Writes (suc (binary_level operator)) back y
      → Writes (binary_level operator) (front ++ token.Operator operator ∷ back) (value_of_operation operator x y)
  higher : (level : ℕ) (ts : List Token) (v : Option ℤ) → Writes (suc level) ts v → Writes level ts v

-- these tokens write an expression with this value (none: it has a fault)
abbrev pub IsExpression : List Token → Option ℤ → Type 0
IsExpression ts v = Writes 1 ts v
