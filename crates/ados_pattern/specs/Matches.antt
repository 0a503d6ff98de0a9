-- Which texts a pattern matches.
use Rattle.std.specs.Prelude.{◌≡◌, ℕ, ◌+◌, ◌-◌, ◌<◌, [], ◌∷◌, ◌++◌, length, ◌⊎◌, Bool, true, false, ◌==◌, IsTrue}
use Rattle.std.specs.List.{range_with_len, list_any}
use Rattle.ados_text.specs.Text.{Text, fold_of}
use Rattle.ados_pattern.specs.Form.{Form, Empty, Char, Any, Range, Outside, Many, Other, Then, Either}

-- some split of the text has a prefix with P and a rest with Q
pub record HasCut (P Q : Text → Type 0) (text : Text) : Type 0 where
  pub front : Text
  pub rest : Text
  pub joined : text ≡ front ++ rest
  pub first : P front
  pub second : Q rest

-- zero or more texts with P, each not empty
pub data Repeats (P : Text → Type 0) : Text → Type 0 where
  none : Repeats P []
  more : (text front rest : Text) → text ≡ front ++ rest → 0 < length front → P front → Repeats P rest → Repeats P text

-- one character that passes the test
abbrev pub is_one : (ℕ → Bool) → Text → Bool
is_one test [] = false
is_one test (c ∷ []) = test c
is_one test (c ∷ d ∷ s) = false

abbrev pub is_same_character : ℕ → ℕ → Bool
is_same_character c d = fold_of c == fold_of d

abbrev pub is_any : ℕ → Bool
is_any c = true

-- some character of the range is the same; case is ignored
abbrev pub in_range : ℕ → ℕ → ℕ → Bool
in_range low high c = list_any (λ m. is_same_character m c) (range_with_len low (high + 1 - low))

-- the text is what the pattern says
abbrev pub Matches : Form → Text → Type 0
Matches Empty s = s ≡ []
Matches (Char c) s = IsTrue (is_one (is_same_character c) s)
Matches Any s = IsTrue (is_one is_any s)
Matches (Range low high) s = IsTrue (is_one (in_range low high) s)
Matches (Outside f) s = (length s ≡ 1) × (Matches f s → ⊥)
Matches (Many f) s = Repeats (Matches f) s
Matches (Other f) s = Matches f s → ⊥
Matches (Then a b) s = HasCut (Matches a) (Matches b) s
Matches (Either a b) s = Matches a s ⊎ Matches b s
