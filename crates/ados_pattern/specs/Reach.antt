-- Where texts lead from a set of places, each given as the number of bytes after it.
use Rattle.std.specs.Prelude.{◌≡◌, ℕ, ◌<◌, ◌≤◌, length, true}
use Rattle.ados_text.specs.Text.{Text}
use Rattle.ados_pattern.specs.Table.{is_set, piece}

-- the places are places of the text
abbrev pub AreWithin : Text → ℕ → Type 0
AreWithin text places = (i : ℕ) → i < 64 → is_set places i ≡ true → i ≤ length text

-- from some start the piece to an end has P
pub record ReachedFrom (P : Text → Type 0) (text : Text) (starts : ℕ) (end : ℕ) : Type 0 where
  pub start : ℕ
  pub fits : start < 64
  pub set : is_set starts start ≡ true
  pub ordered : end ≤ start
  pub within : start ≤ length text
  pub matched : P (piece text start end)

-- the ends are those places to which pieces with P lead from the starts
pub record Reaches (P : Text → Type 0) (text : Text) (starts : ℕ) (ends : ℕ) : Type 0 where
  pub sound : (j : ℕ) → j < 64 → is_set ends j ≡ true → ReachedFrom P text starts j
  pub complete : (i j : ℕ) → i < 64 → is_set starts i ≡ true → j ≤ i → i ≤ length text → P (piece text i j) → is_set ends j ≡ true
