-- Limits of the files, by their size class.
use Rattle.std.specs.Prelude.{ℕ}
use Rattle.ados_ram.specs.declared.limits.Limits.{Limits}
use Rattle.ados_ram.specs.declared.limits.Limits.TheVariants.{Small, Large}

-- the most bytes of a file
abbrev pub file_limit : Limits → ℕ
file_limit Small = 65536
file_limit Large = 67108864

-- the most bytes of all files together
abbrev pub bytes_limit : Limits → ℕ
bytes_limit Small = 1048576
bytes_limit Large = 1073741824

-- the most objects, beside the root
abbrev pub objects_limit : Limits → ℕ
objects_limit Small = 1024
objects_limit Large = 65536
