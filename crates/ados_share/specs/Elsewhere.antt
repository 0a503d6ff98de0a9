-- Where the Shell has a file of the folder beside, as lines say it.
use Rattle.std.specs.Prelude.{Bool, true, false, string_bytes}
use Rattle.std.specs.Str.{bytes_eq}
use Rattle.ados_share.specs.declared.elsewhere.Elsewhere.{Elsewhere}
use Rattle.ados_share.specs.declared.elsewhere.Elsewhere.TheVariants.{Copy, Moved, Part, Replaced}

-- both say the same, with the same path
abbrev pub says_same : Elsewhere → Elsewhere → Bool
says_same (Copy path) (Copy other) = bytes_eq (string_bytes path) (string_bytes other)
says_same (Moved path) (Moved other) = bytes_eq (string_bytes path) (string_bytes other)
says_same (Part path) (Part other) = bytes_eq (string_bytes path) (string_bytes other)
says_same Replaced Replaced = true
says_same _ _ = false
