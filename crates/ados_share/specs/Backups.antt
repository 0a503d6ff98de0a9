-- Backups: copies of files of the folder that are written over while only the Shell has their bytes beside.
use Rattle.std.specs.Prelude.{Bool, true, false, ◌&&◌, not, List, [], ◌∷◌, ◌++◌, Option, None, Some, if◌then◌else◌, string_bytes}
use Rattle.std.specs.List.{filter_map, list_any}
use Rattle.std.specs.Option.{option_to_list}
use Rattle.std.specs.Str.{bytes_eq}
use Rattle.ados_text.specs.Text.{Bytes}
use Rattle.ados_share.specs.declared.backups.Backup.{Backup}
use Rattle.ados_share.specs.declared.moves.Destination.{Destination}
use Rattle.ados_share.specs.Moves.{is_one_destination}
use Rattle.ados_transfer.specs.declared.records.Last.{Last}
use Rattle.ados_transfer.specs.declared.records.Last.TheVariants.{Directory, File as LastFile, StandIn}
use Rattle.ados_transfer.specs.declared.records.Record.{Record}
use Rattle.ados_transfer.specs.declared.here.Here.{Here}
use Rattle.ados_transfer.specs.declared.here.Here.TheVariants.{File}
use Rattle.ados_share.specs.declared.backups.Retention.{Retention}
use Rattle.ados_share.specs.declared.backups.Retention.TheVariants.{Goes, Waits, Stays}
use Rattle.ados_transfer.specs.Within.{is_beginning}

-- `new` takes the place of a file that was seen, whose bytes no other file of the folder has and the Shell does (`is_last_copy`): `new` does
-- not begin with them either, so that they would be only in memory.
abbrev pub needs_backup : Here → Bytes → Bool → Bool
needs_backup (File bytes stamp mode) new is_last_copy = is_last_copy && not (is_beginning bytes new)
needs_backup _ new is_last_copy = false

-- A backup goes once the folder has its bytes again, or the Shell no longer has them. Until then it waits, and at the end it stays.
abbrev pub retention_of : Bool → Bool → Bool → Retention
retention_of in_memory in_folder at_end = if in_memory && not in_folder then (if at_end then Stays else Waits) else Goes

-- a backup is of the file of this path, which had these bytes
abbrev pub is_of : Bytes → Bytes → Backup → Bool
is_of path bytes backup = bytes_eq (string_bytes backup.original) path && bytes_eq backup.bytes bytes

-- what was moved to the first destination is what was moved to the second, or that was not moved
abbrev pub follows : Option Destination → Option Destination → Bool
follows noted None = true
follows None (Some moved) = false
follows (Some noted) (Some moved) = is_one_destination noted moved

-- what is noted of a file counts for this one: both had one path and the same bytes, and where this one was moved the other one is too
abbrev pub counts_for : Backup → Backup → Bool
counts_for backup noted = is_of (string_bytes backup.original) backup.bytes noted && follows noted.moved backup.moved

-- what is noted with one file more: two of one path and the same bytes that are elsewhere are two
abbrev pub with_noted : List Backup → Backup → List Backup
with_noted all backup = if list_any (counts_for backup) all then all else all ++ backup ∷ []

-- where the script moved the file of a backup, if that had this path and these bytes
abbrev pub moved_to : Bytes → Bytes → Backup → Option Destination
moved_to path bytes backup = if is_of path bytes backup then backup.moved else None

-- where it moved all files that had them
abbrev pub moved_from : Bytes → Bytes → List Backup → List Destination
moved_from path bytes noted = filter_map (moved_to path bytes) noted

-- the same for what an object was at the last comparison
abbrev pub moved_before : List Backup → Bytes → Last → List Destination
moved_before noted path Directory = []
moved_before noted path (LastFile bytes) = moved_from path bytes noted
moved_before noted path (StandIn comment) = []

-- what the script moved from the place of a record: earlier files of its bytes, and at last its own, which went to `moved`
abbrev pub followed : List Backup → Option Record → Option Destination → List Destination
followed noted None moved = option_to_list moved
followed noted (Some object) moved = moved_before noted (string_bytes object.path) object.last ++ option_to_list moved
