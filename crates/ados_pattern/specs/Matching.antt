-- Whether a text is what a pattern says, as a test: for definitions that compute.
use Rattle.std.specs.Prelude.{ℕ, zero, suc, [], ◌∷◌, length, Bool, true, false, ◌&&◌, ◌||◌, ◌==◌, not}
use Rattle.ados_text.specs.Text.{Text}
use Rattle.ados_pattern.specs.Form.{Form, Empty, Char, Any, Range, Outside, Many, Other, Then, Either}
use Rattle.ados_pattern.specs.Matches.{is_one, is_same_character, is_any, in_range}

abbrev pub is_empty : Text → Bool
is_empty [] = true
is_empty (c ∷ cs) = false

-- some split of the text has a prefix that passes one test and a rest that passes the other
abbrev pub has_cut : (Text → Bool) → (Text → Bool) → Text → Bool
has_cut first second [] = first [] && second []
has_cut first second (c ∷ cs) = first [] && second (c ∷ cs) || has_cut (λ front. first (c ∷ front)) second cs

-- the text is zero or more pieces that pass the test, at most `count`, each not empty
abbrev pub repeats : (Text → Bool) → ℕ → Text → Bool
repeats test count [] = true
repeats test zero (c ∷ cs) = false
repeats test (suc count) (c ∷ cs) = has_cut (λ front. test (c ∷ front)) (repeats test count) cs

-- the text is what the pattern says
abbrev pub is_match : Form → Text → Bool
is_match Empty text = is_empty text
is_match (Char c) text = is_one (is_same_character c) text
is_match Any text = is_one is_any text
is_match (Range low high) text = is_one (in_range low high) text
is_match (Outside f) text = (length text == 1) && not (is_match f text)
is_match (Many f) text = repeats (is_match f) (length text) text
is_match (Other f) text = not (is_match f text)
is_match (Then a b) text = has_cut (is_match a) (is_match b) text
is_match (Either a b) text = is_match a text || is_match b text
