-- Which with ALL: what the search for a word meets.
use Rattle.std.specs.Prelude.{Bool, not, ◌&&◌, ◌||◌, [], ◌++◌, codes, Option, Some, None, is_some, Result, Ok, Err, if◌then◌else◌}
use Rattle.std.specs.List.{flat_map}
use Rattle.std.specs.FinMap as map
use Rattle.ados_text.specs.Text.{Bytes, Text}
use Rattle.ados_ram.specs.Place.{Place, key_of}
use Rattle.ados_ram.specs.Entry.{is_directory, bytes_of}
use Rattle.ados_ram.specs.declared.entries.Entry.{Entry}
use Rattle.ados_find.specs.declared.codes.Codes.{Codes}
use Rattle.ados_find.specs.Parts.{Parts}
use Rattle.ados_find.specs.Paths.{place_of}
use Rattle.ados_find.specs.Search.{is_path, places_of_entries}
use Rattle.ados_find.specs.Shared.{SharedState}
use Rattle.ados_resident.specs.Programs.{recognized_program}
use Rattle.ados_env.specs.Directories.{path_line}

-- a file is a command: a script, or a program by its bytes that has bit e
abbrev pub is_command : SharedState → Entry → Bool
is_command shared e = not (is_directory e) && (e.bits.script || (e.bits.execute && is_some (recognized_program shared.dialect shared.hosts (bytes_of e))))

-- the line of a place, given the entry there: nothing if it is not a command
abbrev pub entry_line : SharedState → Place → Option Entry → Bytes
entry_line shared place None = []
entry_line shared place (Some e) = if is_command shared e then path_line shared.files place else []

-- the line of a place where a word is looked up: nothing if a command is not there
abbrev pub place_line : SharedState → Result Place Codes → Bytes
place_line shared (Err codes) = []
place_line shared (Ok place) = entry_line shared place (map.get shared.files (key_of place))

-- the lines of the files that a word names in the directories of the path and in C:; a word that is a path is not looked up there
abbrev pub further_lines : SharedState → Parts → Text → Bytes
further_lines shared parts word =
    if is_path word then []
    else flat_map (place_line shared) (places_of_entries shared parts.settings.path word) ++ place_line shared (place_of shared parts.directory (codes "C:" ++ word))

-- the lines of the files at the places where a word is looked up, in their order
abbrev pub file_lines : SharedState → Parts → Text → Bytes
file_lines shared parts word = place_line shared (place_of shared parts.directory word) ++ further_lines shared parts word
