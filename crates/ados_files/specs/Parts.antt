-- Where a text stands in another, with case ignored.
use Rattle.std.specs.Prelude.{◌≡◌, Bool, ◌||◌, [], ◌∷◌, ◌++◌, take, length}
use Rattle.ados_text.specs.Text.{Text, is_same}

-- the text, the second parameter, begins with the part, with case ignored
abbrev pub begins_with : Text → Text → Bool
begins_with part text = is_same part (take (length part) text)

-- the part stands in the text, the second parameter, with case ignored
abbrev pub stands_in : Text → Text → Bool
stands_in part [] = begins_with part []
stands_in part (c ∷ cs) = begins_with part (c ∷ cs) || stands_in part cs

-- some part of a text, as three texts that make it up (front, part, rest), has a property
pub record HasPart (P : Text → Type 0) (text : Text) : Type 0 where
  pub front : Text
  pub part : Text
  pub rest : Text
  pub joined : text ≡ front ++ (part ++ rest)
  pub holds : P part
