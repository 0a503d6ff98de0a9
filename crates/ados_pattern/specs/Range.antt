-- The two members of a range that fold as a byte does.
use Rattle.std.specs.Prelude.{ℕ, ◌-◌, Bool, nat_lt, nat_le, ◌&&◌, if◌then◌else◌}

-- the byte in upper case: a to z become A to Z
abbrev pub upper_of : ℕ → ℕ
upper_of b = if nat_lt b 97 then b else (if nat_lt b 123 then b - 32 else b)

abbrev pub is_between_of : ℕ → ℕ → ℕ → Bool
is_between_of low high c = nat_le low c && nat_le c high
