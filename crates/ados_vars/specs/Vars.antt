-- Variables and aliases: names with their values, in the order in which the names were first set.
use Rattle.std.specs.List.{IsDistinct}
use Rattle.std.specs.Map.{keys_of}
use Rattle.std.specs.Prelude.{List, [], ◌∷◌, Option, Some, None, if◌then◌else◌}
use Rattle.ados_text.specs.Text.{Text, is_same}

-- names and their values, in order
abbrev pub Pairs : Type 0
Pairs = List (Text × Text)

-- no two of the names are the same, with case ignored
abbrev pub AreDistinct : Pairs → Type 0
AreDistinct pairs = IsDistinct is_same (keys_of pairs)

-- a new name goes last; an existing name keeps its position and its first spelling, and takes the value
unfoldable pub set_pair : Pairs → Text → Text → Pairs
set_pair [] name value = (name, value) ∷ []
set_pair (p ∷ ps) name value = if is_same name p.0 then (p.0, value) ∷ ps else p ∷ set_pair ps name value

-- each of the other pairs is set, one after another
abbrev pub set_all : Pairs → Pairs → Pairs
set_all pairs [] = pairs
set_all pairs (p ∷ ps) = set_all (set_pair pairs p.0 p.1) ps

-- the value of a name
unfoldable pub value_in : Pairs → Text → Option Text
value_in [] name = None
value_in (p ∷ ps) name = if is_same name p.0 then Some p.1 else value_in ps name

-- a name as it was first spelled
unfoldable pub first_spelling : Pairs → Text → Option Text
first_spelling [] name = None
first_spelling (p ∷ ps) name = if is_same name p.0 then Some p.0 else first_spelling ps name

-- the pairs without that of a name; the others keep their order
unfoldable pub remove_pair : Pairs → Text → Pairs
remove_pair [] name = []
remove_pair (p ∷ ps) name = if is_same name p.0 then ps else p ∷ remove_pair ps name
