-- The exit status.
use Rattle.std.specs.Prelude.{ℤ, pos, if◌then◌else◌, nat_lt}

-- the code itself if it is 0 to 255, otherwise 20
abbrev pub status_of : ℤ → ℤ
status_of (pos n) = if nat_lt n 256 then pos n else pos 20
status_of _ = pos 20
