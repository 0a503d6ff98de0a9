-- Which texts are patterns, and what each says: the grammar.
use Rattle.std.specs.Prelude.{◌≡◌, ℕ, ◌<◌, ◌≤◌, List, [], ◌∷◌, ◌++◌, length, false}
use Rattle.ados_text.specs.Text.{Text}
use Rattle.ados_pattern.specs.Form.{Form, Empty, Char, Any, Range, Outside, Many, Other, Then, Either}
use Rattle.ados_pattern.specs.Signs.{hash, percent, quote, open_group, close_group, dash, question, open_class, close_class, bar, tilde, is_sign}

abbrev pub Begins : ℕ → Text → Type 0
Begins c [] = ⊥
Begins c (d ∷ text) = d ≡ c

-- a character of a class: itself, or any after a quote
pub data IsOne : Text → ℕ → Type 0 where
  plain : (c : ℕ) → (c ≡ quote → ⊥) → (c ≡ close_class → ⊥) → IsOne (c ∷ []) c
  quoted : (c : ℕ) → IsOne (quote ∷ c ∷ []) c

-- the text does not begin with a `-` and a character after it
abbrev pub IsNoRange : Text → Type 0
IsNoRange (c ∷ high ∷ text) = c ≡ dash → ⊥
IsNoRange text = Unit {0}

-- characters and ranges, each as its two ends; a range is read wherever one can be
pub data AreMembers : Text → List (ℕ × ℕ) → Type 0 where
  none : AreMembers [] []
  alone : (s t : Text) (c : ℕ) (ms : List (ℕ × ℕ)) → IsOne s c → IsNoRange t → AreMembers t ms → AreMembers (s ++ t) ((c, c) ∷ ms)
  range : (s u t : Text) (low high : ℕ) (ms : List (ℕ × ℕ)) → IsOne s low → IsOne u high → AreMembers t ms → AreMembers (s ++ dash ∷ (u ++ t)) ((low, high) ∷ ms)

-- no range is descending
abbrev pub AreUpward : List (ℕ × ℕ) → Type 0
AreUpward [] = Unit {0}
AreUpward (m ∷ ms) = (m.0 ≤ m.1) × AreUpward ms

-- any of the members
abbrev pub any_of : List (ℕ × ℕ) → Form
any_of [] = Empty
any_of (m ∷ []) = Range m.0 m.1
any_of (m ∷ n ∷ ms) = Either (Range m.0 m.1) (any_of (n ∷ ms))

-- members of a class: at least one, and no descending range
pub record IsClassRow (text : Text) (ms : List (ℕ × ℕ)) : Type 0 where
  pub members : AreMembers text ms
  pub some : 0 < length ms
  pub upward : AreUpward ms

-- what is between `[` and `]`
pub data IsClass : Text → Form → Type 0 where
  within : (t : Text) (ms : List (ℕ × ℕ)) → (Begins tilde t → ⊥) → IsClassRow t ms → IsClass t (any_of ms)
  outside : (t : Text) (ms : List (ℕ × ℕ)) → IsClassRow t ms → IsClass (tilde ∷ t) (Outside (any_of ms))

-- what a text may be read as
pub data Kind : Type 0 where
  Alternatives : Kind
  Row : Kind
  Item : Kind

-- the text is of the kind, and says the form; a group says what its alternatives say
pub data Says : Kind → Text → Form → Type 0 where
  character : (c : ℕ) → is_sign c ≡ false → Says Item (c ∷ []) (Char c)
  quoted : (c : ℕ) → Says Item (quote ∷ c ∷ []) (Char c)
  any : Says Item (question ∷ []) Any
  nothing : Says Item (percent ∷ []) Empty
  many : (t : Text) (f : Form) → Says Item t f → Says Item (hash ∷ t) (Many f)
  other : (t : Text) (f : Form) → Says Item t f → Says Item (tilde ∷ t) (Other f)
  group : (t : Text) (f : Form) → Says Alternatives t f → Says Item (open_group ∷ t ++ close_group ∷ []) f
  class : (t : Text) (f : Form) → IsClass t f → Says Item (open_class ∷ t ++ close_class ∷ []) f
  end : Says Row [] Empty
  item : (s t : Text) (f g : Form) → Says Item s f → Says Row t g → Says Row (s ++ t) (Then f g)
  one : (t : Text) (f : Form) → Says Row t f → Says Alternatives t f
  either : (s t : Text) (f g : Form) → Says Row s f → Says Alternatives t g → Says Alternatives (s ++ bar ∷ t) (Either f g)

-- the text is a pattern, and says the form
abbrev pub IsPattern : Text → Form → Type 0
IsPattern text form = Says Alternatives text form
