-- Texts that are one after another in one buffer, by their places.
use Rattle.std.specs.Prelude.{ℕ, ◌≤◌, List, map, length}
use Rattle.std.specs.List.{All}
use Rattle.ados_text.specs.Text.{Bytes, Text, IsText}
use Rattle.ados_items.specs.Items.{bytes_between}
use Rattle.ados_readargs.specs.declared.buffers.Span.{Span}

-- the text of a span
abbrev pub span_text : Bytes → Span → Text
span_text bytes span = bytes_between bytes span.from span.to

-- the texts of the spans
abbrev pub span_texts : Bytes → List Span → List Text
span_texts bytes spans = map (span_text bytes) spans

-- the span is within the first `count` bytes
abbrev pub LiesIn : ℕ → Span → Type 0
LiesIn count span = (span.from ≤ span.to) × (span.to ≤ count)

-- the bytes are ASCII, and each span is within them
pub record AreLaid (bytes : Bytes) (spans : List Span) : Type 0 where
  pub ascii : IsText bytes
  pub within : All (LiesIn (length bytes)) spans
