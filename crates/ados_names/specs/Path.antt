-- Paths: a device, if one is named, and steps.
use Rattle.std.specs.Prelude.{◌≤◌, ℕ, ◌+◌, ◌-◌, Bool, true, not, ◌&&◌, ◌||◌, nat_le, List, [], ◌∷◌, ◌++◌, length, take, drop, Option, Some, None, Result, Ok, Err, IsTrue, position, if◌then◌else◌}
use Rattle.std.specs.List.{list_all, slice_split, suffix_len}
use Rattle.ados_text.specs.Text.{Text}
use Rattle.ados_text.specs.declared.codes.Result2.{Result2}
use Rattle.ados_text.specs.declared.codes.TheConstants.Result2.{INVALID_NAME}
use Rattle.ados_names.specs.Names.{is_colon, is_slash, is_name}
use Rattle.ados_names.specs.declared.steps.Step.{Step}
use Rattle.ados_names.specs.declared.steps.Step.TheVariants.{Up, Name}

-- what a path says: its device text, if it has a colon, and its steps
pub record PathParts : Type 0 where
  pub device : Option Text
  pub steps : List Step

-- the most bytes that a path's text may have
abbrev pub path_limit : ℕ
path_limit = 255

-- the step of a piece: an empty one goes up
abbrev pub path_step : Text → Step
path_step [] = Up
path_step (c ∷ cs) = Name (c ∷ cs)

-- the steps of the last piece: an empty one is ignored
abbrev pub last_steps_of : Text → List Step
last_steps_of [] = []
last_steps_of (c ∷ cs) = Name (c ∷ cs) ∷ []

-- the steps of pieces
abbrev pub steps_of : List Text → List Step
steps_of [] = []
steps_of (last ∷ []) = last_steps_of last
steps_of (piece ∷ next ∷ more) = path_step piece ∷ steps_of (next ∷ more)

-- the parts of a text, by the place of its first colon: what follows it is split at each slash
abbrev pub parts_by_colon : Text → Option ℕ → PathParts
parts_by_colon text None = record { device = None; steps = steps_of (slice_split is_slash text) }
parts_by_colon text (Some colon) = record { device = Some (take colon text); steps = steps_of (slice_split is_slash (drop (colon + 1) text)) }

abbrev pub parts_of : Text → PathParts
parts_of text = parts_by_colon text (position is_colon text)

-- a piece is empty or a name
abbrev pub is_path_piece : Text → Bool
is_path_piece [] = true
is_path_piece (c ∷ cs) = is_name (c ∷ cs)

-- and so is a device text, if there is one
abbrev pub is_device : Option Text → Bool
is_device None = true
is_device (Some device) = is_path_piece device

-- a step goes up or into a name
abbrev pub is_step : Step → Bool
is_step Up = true
is_step (Name name) = is_name name

abbrev pub are_parts : PathParts → Bool
are_parts path = is_device path.device && list_all is_step path.steps

-- the path that a text names; 210 for any other text
abbrev pub path_of : Text → Result PathParts Result2
path_of text = if nat_le (length text) path_limit && are_parts (parts_of text) then Ok (parts_of text) else Err INVALID_NAME

-- steps written out: a slash stands for each step up, and follows each name that is not the last step
abbrev pub text_after_name : List Step → Text → Text
text_after_name [] text = text
text_after_name (step ∷ more) text = 47 ∷ text

abbrev pub steps_text : List Step → Text
steps_text [] = []
steps_text (Up ∷ rest) = 47 ∷ steps_text rest
steps_text (Name name ∷ rest) = name ++ text_after_name rest (steps_text rest)

abbrev pub device_text : Option Text → Text
device_text None = []
device_text (Some device) = device ++ 58 ∷ []

-- the text of a path
abbrev pub text_of : PathParts → Text
text_of path = device_text path.device ++ steps_text path.steps

-- what holds of each path: its device and its names are valid, and its text is not too long
pub record IsPath (path : PathParts) : Type 0 where
  pub parts : IsTrue (are_parts path)
  pub fits : length (text_of path) ≤ path_limit

-- the path with one more step, into a name; 210 for a text that is not a name, and if the path gets too long
abbrev pub path_with_name : PathParts → Text → PathParts
path_with_name path name = record path { steps = path.steps ++ Name name ∷ [] }

abbrev pub joined_path : PathParts → Text → Result PathParts Result2
joined_path path name = if is_name name && nat_le (length (text_of (path_with_name path name))) path_limit then Ok (path_with_name path name) else Err INVALID_NAME

-- the place in a path's text at which its last piece begins: after the last colon or slash
abbrev pub is_piece_byte : ℕ → Bool
is_piece_byte byte = not (is_colon byte || is_slash byte)

abbrev pub last_piece_of : Text → ℕ
last_piece_of text = length text - suffix_len is_piece_byte text
