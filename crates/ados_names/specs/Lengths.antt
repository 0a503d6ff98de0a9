-- How long the text of steps is.
use Rattle.std.specs.Prelude.{ℕ, ◌+◌, List, [], ◌∷◌, length}
use Rattle.ados_names.specs.declared.steps.Step.{Step}
use Rattle.ados_names.specs.declared.steps.Step.TheVariants.{Up, Name}

-- the bytes of steps if each is followed by a slash
abbrev pub pieces_len : List Step → ℕ
pieces_len [] = 0
pieces_len (Up ∷ rest) = 1 + pieces_len rest
pieces_len (Name name ∷ rest) = length name + 1 + pieces_len rest
