-- A line with its references: it is a sequence of segments, and each is a byte that stands for itself, or a reference that
-- stands for a value. Values are not read again.
use Rattle.std.specs.Prelude.{◌≡◌, ◌≢◌, ℕ, ◌+◌, [], ◌∷◌, ◌++◌, length, take, ◌==◌, Option, Some, None, position, if◌then◌else◌}
use Rattle.std.specs.List.{All}
use Rattle.ados_text.specs.Text.{Text}
use Rattle.ados_items.specs.Segments.{joined}
use Rattle.ados_subst.specs.declared.marks.Marks.{Marks}
use Rattle.ados_subst.specs.References.{References, is_byte}

-- a segment: a byte for itself, or a bra, a name and a ket for a value
pub data Segment : Type 0 where
  Literal : ℕ → Segment
  Value : Text → Text → Segment

-- how many bytes it has after its first
abbrev pub segment_tail_len : Segment → ℕ
segment_tail_len (Literal c) = 0
segment_tail_len (Value name value) = length name + 1

-- the text that it stands for
abbrev pub segment_text : Segment → Text
segment_text (Literal c) = c ∷ []
segment_text (Value name value) = value

-- a bra stays if the text up to its ket refers to nothing
abbrev pub segment_by_value : ℕ → Text → Option Text → Segment
segment_by_value c name None = Literal c
segment_by_value c name (Some value) = Value name value

-- a bra that no ket follows stays
abbrev pub segment_by_ket : References → ℕ → Text → Option ℕ → Segment
segment_by_ket references c rest None = Literal c
segment_by_ket references c rest (Some place) = segment_by_value c (take place rest) (references (take place rest))

-- the segment that begins with a byte
abbrev pub first_segment : Marks → References → ℕ → Text → Segment
first_segment marks references c rest =
    if c == marks.bra then segment_by_ket references c rest (position (is_byte marks.ket) rest) else Literal c

-- a line with its references replaced, after the bytes left of the segment before
abbrev pub segments_text : Marks → References → ℕ → Text → Text
segments_text marks references taken line = joined (first_segment marks references) segment_tail_len segment_text taken line

-- A line with its references replaced by what they stand for.
abbrev pub substituted_line : Marks → References → Text → Text
substituted_line marks references line = segments_text marks references 0 line

-- no byte of the text is this one
abbrev pub Lacks : ℕ → Text → Type 0
Lacks byte text = All (λ c. c ≢ byte) text

-- if a line begins with a bra, a name and the next ket, the name refers to nothing
abbrev pub BeginsNoReference : Marks → References → Text → Type 0
BeginsNoReference marks references line =
    (name rest : Text) → Lacks marks.ket name → line ≡ marks.bra ∷ (name ++ marks.ket ∷ rest) → references name ≡ None

-- A line becomes a text, from the left: a reference becomes what its name stands for, and a byte that begins no
-- reference stays. What was substituted is not read again.
pub data LineBecomes (marks : Marks) (references : References) : Text → Text → Type 0 where
  ended : LineBecomes marks references [] []
  byte : (c : ℕ) (line text : Text) → BeginsNoReference marks references (c ∷ line)
      → LineBecomes marks references line text → LineBecomes marks references (c ∷ line) (c ∷ text)
  reference : (name value line text : Text) → Lacks marks.ket name → references name ≡ Some value
      → LineBecomes marks references line text
      → LineBecomes marks references (marks.bra ∷ (name ++ marks.ket ∷ line)) (value ++ text)
