-- What a pattern says.
use Rattle.std.specs.Prelude.{ℕ}
use Rattle.ados_pattern.specs.declared.parts.Part.{Part}
use Rattle.ados_pattern.specs.declared.parts.Part.TheVariants.{Empty as Empty', Char as Char', Any as Any', Range as Range', Outside', Many', Other', Then', Either'}

-- what a pattern says
pub data Form : Type 0 where
  Empty : Form
  Char : ℕ → Form
  Any : Form
  Range : ℕ → ℕ → Form
  Outside : Form → Form
  Many : Form → Form
  Other : Form → Form
  Then : Form → Form → Form
  Either : Form → Form → Form

abbrev pub form_of : Part → Form
form_of Empty' = Empty
form_of (Char' c) = Char c
form_of Any' = Any
form_of (Range' a z) = Range a z
form_of (Outside' p f) = Outside (form_of f)
form_of (Many' p f) = Many (form_of f)
form_of (Other' p f) = Other (form_of f)
form_of (Then' p a q b) = Then (form_of a) (form_of b)
form_of (Either' p a q b) = Either (form_of a) (form_of b)
