-- Where the next occurrence of a byte is on a line.
use Rattle.std.specs.Prelude.{ℕ, ◌+◌, drop}
use Rattle.std.specs.List.{position_or_len}
use Rattle.ados_text.specs.Text.{Text}
use Rattle.ados_subst.specs.References.{is_byte}

-- the place of the first such byte at or after a place; if there is none, the line's length
abbrev pub next_place : ℕ → Text → ℕ → ℕ
next_place byte line place = place + position_or_len (is_byte byte) (drop place line)
