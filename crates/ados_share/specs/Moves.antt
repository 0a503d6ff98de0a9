-- Moves: where files of the folder went in the Shell's files.
use Rattle.std.specs.Prelude.{Bool, true, false, not, Option, Some, None, if◌then◌else◌}
use Rattle.std.specs.FinMap as map
use Rattle.std.specs.List.{starts_with}
use Rattle.ados_text.specs.Text.{is_same}
use Rattle.ados_ram.specs.declared.entries.Entry.{Entry}
use Rattle.ados_ram.specs.Entry.{is_directory}
use Rattle.ados_ram.specs.Files.{Files}
use Rattle.ados_ram.specs.Place.{Place, is_same_place, key_of, moved_place}
use Rattle.ados_share.specs.declared.moves.Destination.{Destination}
use Rattle.ados_share.specs.declared.moves.Destination.TheVariants.{At, Replaced}

-- where a file is after a Rename; what gave way to what came in is nowhere
abbrev pub destination_after : Place → Place → Destination → Destination
destination_after from to (At place) = At (moved_place from to place)
destination_after from to Replaced = Replaced

-- both are one place, or gave way
abbrev pub is_one_destination : Destination → Destination → Bool
is_one_destination (At place) (At other) = is_same_place place other
is_one_destination Replaced Replaced = true
is_one_destination _ _ = false

-- what was moved gave way to what came in
abbrev pub gave_way : Destination → Bool
gave_way (At place) = false
gave_way Replaced = true

-- a place is a directory, or below it
abbrev pub is_within : Place → Place → Bool
is_within directory place = starts_with is_same place directory

-- where a file is after what is in a directory gave way to what came in
abbrev pub destination_without : Place → Destination → Destination
destination_without directory (At place) = if is_within directory place then Replaced else At place
destination_without directory Replaced = Replaced

-- the entry is a file
abbrev pub is_file : Option Entry → Bool
is_file None = false
is_file (Some entry) = not (is_directory entry)

-- the script deleted a file: there is none where it was
abbrev pub is_deleted : Files → Destination → Bool
is_deleted files (At place) = not (is_file (map.get files (key_of place)))
is_deleted files Replaced = false

-- what was moved may be elsewhere: a file is where it went, or it gave way to what came in
abbrev pub may_be_elsewhere : Files → Option Destination → Bool
may_be_elsewhere files None = false
may_be_elsewhere files (Some (At place)) = is_file (map.get files (key_of place))
may_be_elsewhere files (Some Replaced) = true
