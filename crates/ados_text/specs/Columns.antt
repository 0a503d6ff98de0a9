-- Texts in columns of a line.
use Rattle.std.specs.Prelude.{ℕ, ◌-◌, ◌++◌, length}
use Rattle.std.proofs.Math.ListN.{replicate}
use Rattle.ados_text.specs.Text.{Bytes}

-- a text at the left of `width` columns, and at the right
abbrev pub left_aligned_text : ℕ → Bytes → Bytes
left_aligned_text width text = text ++ replicate (width - length text) 32

abbrev pub right_aligned_text : ℕ → Bytes → Bytes
right_aligned_text width text = replicate (width - length text) 32 ++ text

-- digits at the right, with zeros before them
abbrev pub zero_padded_text : ℕ → Bytes → Bytes
zero_padded_text width text = replicate (width - length text) 48 ++ text
