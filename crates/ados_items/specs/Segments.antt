-- A list as a row of segments: each begins with an item of the list, covers some of those after it, and stands for a text.
-- `first` gives the segment that begins with an item, from it and what follows; `further` how many of those it covers.
use Rattle.std.specs.Prelude.{ℕ, zero, suc, List, [], ◌∷◌}
use Rattle.std.specs.List.{flat_map}
use Rattle.ados_text.specs.Text.{Text}

-- the segments of a list, after the `taken` items that belong to the segment before
abbrev pub segments : {A S : Type 0} → (A → List A → S) → (S → ℕ) → ℕ → List A → List S
segments first further taken [] = []
segments first further (suc taken) (x ∷ xs) = segments first further taken xs
segments first further zero (x ∷ xs) = (let segment = first x xs in segment ∷ segments first further (further segment) xs)

-- what a list stands for, after the `taken` items of the segment before: the texts of its segments, joined
abbrev pub joined : {A S : Type 0} → (A → List A → S) → (S → ℕ) → (S → Text) → ℕ → List A → Text
joined first further text taken list = flat_map text (segments first further taken list)
