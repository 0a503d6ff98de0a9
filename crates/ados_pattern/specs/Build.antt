-- What the tokens of a pattern's text say, from right to left.
use Rattle.std.specs.Prelude.{ℕ, List, [], ◌∷◌, Option, Some, None, option_map}
use Rattle.ados_pattern.specs.declared.tokens.Token.{Token}
use Rattle.ados_pattern.specs.declared.tokens.Token.TheVariants.{Silent, Char as CharMark, Any as AnyMark, Nothing, Many as ManyMark, Other as OtherMark, Bar, Open, Close, ClassOpen, Negated, Member, ClassClose, Hanging}
use Rattle.ados_pattern.specs.declared.builds.Stack.{Stack}
use Rattle.ados_pattern.specs.declared.builds.Stack.TheVariants.{Bottom, Level'}
use Rattle.ados_pattern.specs.Form.{Form, form_of, Empty, Char, Any, Range, Outside, Many, Other, Then, Either}

-- a row, and the alternatives after it
abbrev pub Level : Type 0
Level = Form × Option Form

abbrev pub levels_of : Stack → List Level
levels_of Bottom = []
levels_of (Level' row rest p below) = (form_of row, option_map form_of rest) ∷ levels_of below

abbrev pub on_row : (Form → Form) → List Level → List Level
on_row f [] = []
on_row f (l ∷ ls) = (f l.0, l.1) ∷ ls

abbrev pub with_item : Form → List Level → List Level
with_item item ls = on_row (Then item) ls

abbrev pub item_many : Form → Form
item_many (Then i row) = Then (Many i) row
item_many row = row

abbrev pub item_other : Form → Form
item_other (Then i row) = Then (Other i) row
item_other row = row

abbrev pub whole_row : Form → Option Form → Form
whole_row row None = row
whole_row row (Some rest) = Either row rest

abbrev pub with_bar : List Level → List Level
with_bar [] = []
with_bar (l ∷ ls) = (Empty, Some (whole_row l.0 l.1)) ∷ ls

abbrev pub with_group : List Level → List Level
with_group [] = []
with_group (l ∷ ls) = with_item (whole_row l.0 l.1) ls

-- a member of a class, and the members after it
abbrev pub with_member : ℕ → ℕ → Form → Form
with_member low high Empty = Range low high
with_member low high row = Either (Range low high) row

-- the levels with one more token before them
abbrev pub with_token : Token → List Level → List Level
with_token Silent ls = ls
with_token (CharMark c) ls = with_item (Char c) ls
with_token AnyMark ls = with_item Any ls
with_token Nothing ls = with_item Empty ls
with_token ManyMark ls = on_row item_many ls
with_token OtherMark ls = on_row item_other ls
with_token Bar ls = with_bar ls
with_token Close ls = (Empty, None) ∷ ls
with_token Open ls = with_group ls
with_token ClassClose ls = (Empty, None) ∷ ls
with_token (Member low high) ls = on_row (with_member low high) ls
with_token Negated ls = on_row Outside ls
with_token ClassOpen ls = with_group ls
with_token Hanging ls = ls

abbrev pub levels_of_tokens : List Token → List Level
levels_of_tokens [] = (Empty, None) ∷ []
levels_of_tokens (t ∷ ts) = with_token t (levels_of_tokens ts)

abbrev pub form_of_levels : List Level → Form
form_of_levels [] = Empty
form_of_levels (l ∷ ls) = whole_row l.0 l.1

-- what the tokens say
abbrev pub form_of_tokens : List Token → Form
form_of_tokens ts = form_of_levels (levels_of_tokens ts)
