-- What there is still room for in the Shell's files.
use Rattle.std.specs.Prelude.{ℕ, Bool, ◌&&◌, ◌-◌, nat_le, Option, Some, None}
use Rattle.ados_ram.specs.declared.entries.Entry.{Entry}
use Rattle.ados_ram.specs.Entry.{size_of}
use Rattle.ados_ram.specs.Limits.{bytes_limit, file_limit}
use Rattle.ados_transfer.specs.declared.room.Room.{Room}

-- how many bytes what is there has
abbrev pub size_there : Option Entry → ℕ
size_there None = 0
size_there (Some entry) = size_of entry

-- there is room for a file with `size` bytes in place of what is there, which has `old` bytes
abbrev pub has_room_for : Room → ℕ → ℕ → Bool
has_room_for room size old = nat_le size (file_limit room.limits) && nat_le size (bytes_limit room.limits - (room.bytes - old))
