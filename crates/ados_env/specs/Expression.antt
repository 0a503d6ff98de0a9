-- The value of an expression, by its tokens from left to right: what binds more strongly acts first, and what binds equally
-- acts from the left.
use Rattle.std.specs.Prelude.{ℕ, ℤ, pos, neg_ℤ, ◌^◌, nat_le, List, [], ◌∷◌, Option, Some, None, Result, Ok, Err, if◌then◌else◌}
use Rattle.ados_text.specs.Text.{Text}
use Rattle.ados_text.specs.declared.codes.Result2.{Result2}
use Rattle.ados_text.specs.declared.codes.TheConstants.Result2.{BAD_NUMBER, ARGUMENT_MISSING}
use Rattle.ados_env.specs.declared.operators.Operator.{Operator as BinaryOperator}
use Rattle.ados_env.specs.declared.operators.Operator.TheVariants.{Minus}
use Rattle.ados_env.specs.declared.operators.Prefix.TheVariants as prefix
use Rattle.ados_env.specs.declared.tokens.Token.{Token}
use Rattle.ados_env.specs.declared.tokens.Token.TheVariants as token
use Rattle.ados_env.specs.declared.expressions.Wait.{Wait}
use Rattle.ados_env.specs.declared.expressions.Wait.TheVariants.{Bracket, Prefix, Operator}
use Rattle.ados_env.specs.declared.expressions.Waits.{Waits}
use Rattle.ados_env.specs.declared.expressions.Waits.TheVariants.{Nothing, First'}
use Rattle.ados_env.specs.declared.expressions.Reader.{Reader}
use Rattle.ados_env.specs.declared.expressions.Reader.TheVariants as reader
use Rattle.ados_env.specs.Operators.{binary_level, value_of_operation, prefixed_value}
use Rattle.ados_env.specs.Tokens.{tokens_of}

-- how far an expression was read, with all that waits for a value, the last first: a value is wanted, or a value was read (none if it has a
-- fault), or a token stands where it may not
pub data State : Type 0 where
  wanting : List Wait → State
  having : Option ℤ → List Wait → State
  failing : State

-- what waits for a value, as a list, the last first
abbrev pub waits_of : Waits → List Wait
waits_of Nothing = []
waits_of (First' wait p below) = wait ∷ waits_of below

-- how far a reader of the code has come
abbrev pub state_of : Reader → State
state_of (reader.Wanting waits) = wanting (waits_of waits)
state_of (reader.Having value waits) = having value (waits_of waits)
state_of reader.Failing = failing

-- a value after what waits for it has acted, the last first: a prefix does, and an operator that binds at least as strongly as a level
abbrev pub settled_value : ℕ → Option ℤ → List Wait → Option ℤ
settled_value level value [] = value
settled_value level value (Bracket ∷ waits) = value
settled_value level value (Prefix sign ∷ waits) = settled_value level (prefixed_value sign value) waits
settled_value level value (Operator first operator ∷ waits) =
    if nat_le level (binary_level operator) then settled_value level (value_of_operation operator first value) waits else value

-- what still waits for a value, the last first, once prefixes and operators that bind at least as strongly as a level have acted on a value
abbrev pub waits_left : ℕ → List Wait → List Wait
waits_left level [] = []
waits_left level (Bracket ∷ waits) = Bracket ∷ waits
waits_left level (Prefix sign ∷ waits) = waits_left level waits
waits_left level (Operator first operator ∷ waits) =
    if nat_le level (binary_level operator) then waits_left level waits else Operator first operator ∷ waits

-- the state after a prefix, a bracket or an operator: it waits too, and a value is wanted
abbrev pub wanting_after : Wait → List Wait → State
wanting_after wait waits = wanting (wait ∷ waits)

-- the state after 2147483648, given what waits for a value: it is a number only as the value of a `-`
abbrev pub limit_read : List Wait → State
limit_read [] = failing
limit_read (Bracket ∷ waits) = failing
limit_read (Prefix prefix.Negative ∷ waits) = having (Some (neg_ℤ (pos (2 ^ 31)))) waits
limit_read (Prefix prefix.Complement ∷ waits) = failing
limit_read (Operator first operator ∷ waits) = failing

-- the state after an operator where a value is wanted, given what waits for it: only `-` is a prefix too
abbrev pub sign_read : BinaryOperator → List Wait → State
sign_read Minus waits = wanting_after (Prefix prefix.Negative) waits
sign_read operator waits = failing

-- the state after a token where a value is wanted, given what waits for it
abbrev pub value_read : Token → List Wait → State
value_read (token.Number number) waits = having (Some number) waits
value_read token.Limit waits = limit_read waits
value_read (token.Operator operator) waits = sign_read operator waits
value_read token.Complement waits = wanting_after (Prefix prefix.Complement) waits
value_read token.Open waits = wanting_after Bracket waits
value_read token.Close waits = failing
value_read token.Wrong waits = failing

-- the state after a `)`, given the value of what stands in its bracket and what waits: the bracket has this value
abbrev pub closed : Option ℤ → List Wait → State
closed value [] = failing
closed value (Bracket ∷ waits) = having value waits
closed value (Prefix sign ∷ waits) = failing
closed value (Operator first operator ∷ waits) = failing

-- the state after a token that follows a value, given the value and what waits
abbrev pub operator_read : Token → Option ℤ → List Wait → State
operator_read (token.Number number) value waits = failing
operator_read token.Limit value waits = failing
operator_read (token.Operator operator) value waits =
    wanting_after (Operator (settled_value (binary_level operator) value waits) operator) (waits_left (binary_level operator) waits)
operator_read token.Complement value waits = failing
operator_read token.Open value waits = failing
operator_read token.Close value waits = closed (settled_value 0 value waits) (waits_left 0 waits)
operator_read token.Wrong value waits = failing

-- the state after one more token
abbrev pub with_token : Token → State → State
with_token token (wanting waits) = value_read token waits
with_token token (having value waits) = operator_read token value waits
with_token token failing = failing

-- the state after these tokens
abbrev pub state_after : State → List Token → State
state_after state [] = state
state_after state (token ∷ tokens) = state_after (with_token token state) tokens

-- the value of a whole expression at whose end nothing waits, and which has no fault; otherwise it is a bad number
abbrev pub whole_value : Option ℤ → List Wait → Result ℤ Result2
whole_value value (wait ∷ waits) = Err BAD_NUMBER
whole_value None [] = Err BAD_NUMBER
whole_value (Some value) [] = Ok value

-- the value of an expression that ends in a state, or its fault
abbrev pub ended : State → Result ℤ Result2
ended (wanting waits) = Err ARGUMENT_MISSING
ended (having value waits) = whole_value (settled_value 0 value waits) (waits_left 0 waits)
ended failing = Err BAD_NUMBER

-- the value of an expression, or its fault
abbrev pub expression_value : Text → Result ℤ Result2
expression_value text = ended (state_after (wanting []) (tokens_of text))
