-- A line that was begun, and the lines after it.
use Rattle.std.proofs.Common.{ℕ, List, [], ◌∷◌, ◌++◌}

-- the first of these lines continues what was begun; at the end of the bytes that is a line itself, unless it is empty
abbrev pub begun_by : List ℕ → List (List ℕ) → List (List ℕ)
begun_by [] lines = lines
begun_by (byte ∷ bytes) [] = (byte ∷ bytes) ∷ []
begun_by (byte ∷ bytes) (line ∷ lines) = ((byte ∷ bytes) ++ line) ∷ lines
