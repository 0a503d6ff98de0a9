-- Names: what an object, a device or an assign may be called.
use Rattle.std.specs.Prelude.{ℕ, Bool, not, ◌&&◌, ◌==◌, nat_le, nat_lt, length}
use Rattle.std.specs.List.{list_all}
use Rattle.ados_text.specs.Text.{Text}

-- a colon, after which a path's steps begin
abbrev pub is_colon : ℕ → Bool
is_colon byte = byte == 58

-- a slash, which separates steps
abbrev pub is_slash : ℕ → Bool
is_slash byte = byte == 47

-- printable, and neither a colon nor a slash
abbrev pub is_name_byte : ℕ → Bool
is_name_byte byte = nat_le 32 byte && nat_le byte 126 && not (is_colon byte) && not (is_slash byte)

-- 1 to 30 such bytes
abbrev pub is_name : Text → Bool
is_name text = nat_lt 0 (length text) && nat_le (length text) 30 && list_all is_name_byte text
