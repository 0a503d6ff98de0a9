-- Which texts are literal, and their names.
use Rattle.std.specs.Prelude.{List, [], ◌∷◌, ◌++◌, Option, Some, None, option_map}
use Rattle.ados_text.specs.Text.{Text}
use Rattle.ados_pattern.specs.declared.tokens.Token.{Token}
use Rattle.ados_pattern.specs.declared.tokens.Token.TheVariants.{Silent, Char}
use Rattle.ados_pattern.specs.Tokens.{tokens_of}
use Rattle.ados_pattern.specs.Form.{Form, Empty, Char as CharForm, Then}

-- the name that a form is: one row, in which every item is a character
abbrev pub name_in : Form → Option Text
name_in Empty = Some []
name_in (Then (CharForm c) row) = option_map (λ name. c ∷ name) (name_in row)
name_in form = None

-- a name and the characters after it, if each token is a character or its quote
abbrev pub chars_after : Text → List Token → Option Text
chars_after name [] = Some name
chars_after name (Silent ∷ ts) = chars_after name ts
chars_after name (Char c ∷ ts) = chars_after (name ++ c ∷ []) ts
chars_after name (_ ∷ ts) = None

-- the name of a literal text: one alternative, in which every item is a character, quoted or not
abbrev pub literal_name : Text → Option Text
literal_name text = chars_after [] (tokens_of text)
