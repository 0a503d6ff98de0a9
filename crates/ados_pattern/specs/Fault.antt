-- Which texts are not patterns, and the least place at which there is a fault.
use Rattle.std.specs.Prelude.{ℕ, ◌+◌, ◌-◌, List, [], ◌∷◌, length, Option, Some, None, option_map, Bool, true, false, not, ◌==◌, nat_lt, if◌then◌else◌}
use Rattle.ados_text.specs.Text.{Text}
use Rattle.ados_pattern.specs.declared.tokens.Token.{Token}
use Rattle.ados_pattern.specs.declared.tokens.Token.TheVariants.{Many, Other, Bar, Open, Close, ClassOpen, Member, ClassClose, Hanging}
use Rattle.ados_pattern.specs.declared.errors.PatternFault.{PatternFault}
use Rattle.ados_pattern.specs.declared.errors.PatternFault.TheVariants.{BadPattern, TooLong}
use Rattle.ados_pattern.specs.Tokens.{tokens_of}

abbrev pub ends_row : Token → Bool
ends_row Bar = true
ends_row Close = true
ends_row _ = false

-- no item follows a `#` or `~`
abbrev pub has_nothing : List Token → Bool
has_nothing [] = true
has_nothing (t ∷ ts) = ends_row t

abbrev pub closes_with_token : ℕ → Token → Bool → Bool → Bool → Bool
closes_with_token depth Open deeper higher same = deeper
closes_with_token depth Close deeper higher same = if depth == 0 then true else higher
closes_with_token depth _ deeper higher same = same

-- whether the tokens, which begin inside `depth` inner groups, close the group around those
abbrev pub closes : ℕ → List Token → Bool
closes depth [] = false
closes depth (t ∷ ts) = closes_with_token depth t (closes (depth + 1) ts) (closes (depth - 1) ts) (closes depth ts)

-- whether a class is bad, by a token of it, given whether the rest is bad with and without a member before
abbrev pub is_bad_with_token : Bool → Token → Bool → Bool → Bool
is_bad_with_token has ClassClose with_one same = not has
is_bad_with_token has (Member low high) with_one same = if nat_lt high low then true else with_one
is_bad_with_token has _ with_one same = same

-- the class is open, empty or has a descending range
abbrev pub is_bad_class : Bool → List Token → Bool
is_bad_class has [] = true
is_bad_class has (t ∷ ts) = is_bad_with_token has t (is_bad_class true ts) (is_bad_class has ts)

-- whether a token is a fault, inside `depth` groups, by what follows it
abbrev pub is_fault : ℕ → Token → List Token → Bool
is_fault depth Open ts = not (closes 0 ts)
is_fault depth Close ts = depth == 0
is_fault depth Many ts = has_nothing ts
is_fault depth Other ts = has_nothing ts
is_fault depth ClassOpen ts = is_bad_class false ts
is_fault depth Hanging ts = true
is_fault depth _ ts = false

abbrev pub depth_after : ℕ → Token → ℕ
depth_after depth Open = depth + 1
depth_after depth Close = depth - 1
depth_after depth _ = depth

-- the place of the first token that is a fault, from a place on
abbrev pub fault_from : ℕ → ℕ → List Token → Option ℕ
fault_from depth place [] = None
fault_from depth place (t ∷ ts) = if is_fault depth t ts then Some place else fault_from (depth_after depth t) (place + 1) ts

-- why a text is not a pattern
abbrev pub fault_of : Text → Option PatternFault
fault_of text = if nat_lt 255 (length text) then Some TooLong else option_map BadPattern (fault_from 0 0 (tokens_of text))
