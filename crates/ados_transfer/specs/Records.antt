-- What an object of a share was at the last comparison.
use Rattle.std.specs.Prelude.{Bool, false, ◌&&◌, not, Option, Some, None}
use Rattle.std.specs.Str.{bytes_eq}
use Rattle.ados_ram.specs.declared.entries.Entry.{Entry}
use Rattle.ados_ram.specs.Entry.{is_directory, bytes_of}
use Rattle.ados_transfer.specs.declared.records.Last.{Last}
use Rattle.ados_transfer.specs.declared.records.Last.TheVariants.{Directory, File, StandIn}
use Rattle.ados_transfer.specs.StandIns.{is_stand_in, is_stand_in_of}

-- an entry is what an object was at the last comparison; a stand-in is no file of the Shell's own
abbrev pub is_last : Last → Entry → Bool
is_last Directory entry = is_directory entry
is_last (File bytes) entry = not (is_directory entry) && (bytes_eq (bytes_of entry) bytes && not (is_stand_in entry))
is_last (StandIn comment) entry = is_stand_in_of entry comment

-- the Shell has what an object was at the last comparison
abbrev pub is_kept : Last → Option Entry → Bool
is_kept last None = false
is_kept last (Some entry) = is_last last entry
