-- LookupOrder: what a word stands for, told once more as a reference manual does, place by place.
use Rattle.std.specs.Prelude.{◌≡◌, ℕ, List, [], ◌∷◌, ◌++◌, map, Option, Some, None, Result, Ok, Err, codes, if◌then◌else◌}
use Rattle.std.specs.FinMap as finite
use Rattle.ados_text.specs.Text.{Text}
use Rattle.ados_ram.specs.Entry.{is_directory, bytes_of}
use Rattle.ados_ram.specs.Place.{Place, key_of}
use Rattle.ados_ram.specs.declared.entries.Entry.{Entry}
use Rattle.ados_find.specs.declared.codes.Codes.{Codes}
use Rattle.ados_find.specs.declared.search.Found.{Found}
use Rattle.ados_find.specs.declared.search.Found.TheVariants as found
use Rattle.ados_find.specs.Paths.{place_of}
use Rattle.ados_find.specs.Search.{is_path}
use Rattle.ados_find.specs.Shared.{SharedState}
use Rattle.ados_resident.specs.declared.programs.Program.{Program}
use Rattle.ados_resident.specs.declared.residents.Internal.{Internal}
use Rattle.ados_resident.specs.declared.residents.Resident.{Resident}
use Rattle.ados_resident.specs.Programs.{recognized_program}
use Rattle.ados_resident.specs.Residents.{resident_internal, entry_in}
use Rattle.ados_machine.specs.Next.{stands_for}
use Rattle.ados_machine.specs.Shells.{ShellState}
use Rattle.ados_machine.specs.World.{WorldState}

-- what a word stands for that leads to a file that can't be run, by the number of the fault
abbrev pub cannot_run : ℕ → Found
cannot_run number = found.NotExecutable (record { 0 = number })

-- what a file at this place stands for, by the program that it holds, if it holds one; any other can't be run (121)
abbrev pub as_program : Place → Option Program → Found
as_program place (Some program) = found.File (record { place = place; program = program })
as_program place None = cannot_run 121

-- what a file at this place stands for: a script if it has the bit s; without the bit e it can't be run (305), and with e it is a program,
-- or none (121)
abbrev pub as_file : SharedState → Place → Entry → Found
as_file shared place entry =
    if entry.bits.script then found.Script place else
    (if entry.bits.execute then as_program place (recognized_program shared.dialect shared.hosts (bytes_of entry)) else cannot_run 305)

-- what a word stands for that leads to the file at this place; none if nothing or a directory is there
abbrev pub file_there : SharedState → Place → Option Entry → Option Found
file_there shared place None = None
file_there shared place (Some entry) = if is_directory entry then None else Some (as_file shared place entry)

-- what a word stands for that leads to the directory at this place; none if nothing or a file is there
abbrev pub directory_there : Place → Option Entry → Option Found
directory_there place None = None
directory_there place (Some entry) = if is_directory entry then Some (found.Directory place) else None

-- what a word stands for whose text leads to the file at this place; none if the text leads nowhere
abbrev pub file_at : SharedState → Result Place Codes → Option Found
file_at shared (Err codes) = None
file_at shared (Ok place) = file_there shared place (finite.get shared.files (key_of place))

-- what a word stands for whose text leads to the directory at this place; none if the text leads nowhere
abbrev pub directory_at_place : SharedState → Result Place Codes → Option Found
directory_at_place shared (Err codes) = None
directory_at_place shared (Ok place) = directory_there place (finite.get shared.files (key_of place))

-- what a word stands for that leads to a file, by this text from this directory, if one is there
abbrev pub file_from : SharedState → Place → Text → Option Found
file_from shared directory text = file_at shared (place_of shared directory text)

-- what a word stands for that leads to a directory, by this text from this directory, if one is there
abbrev pub directory_from : SharedState → Place → Text → Option Found
directory_from shared directory text = directory_at_place shared (place_of shared directory text)

-- what was found in a directory on the path, by what is at that directory's place: it counts only as long as it is a directory
abbrev pub if_directory : Option Entry → Option Found → Option Found
if_directory None file = None
if_directory (Some entry) file = if is_directory entry then file else None

-- what a word stands for that names a file in this directory on the path, if one is there
abbrev pub file_on_path : SharedState → Text → Place → Option Found
file_on_path shared word entry = if_directory (finite.get shared.files (key_of entry)) (file_from shared entry word)

-- what a word stands for that names this internal command, if it names one that is enabled
abbrev pub if_enabled : Option Internal → Option Found
if_enabled None = None
if_enabled (Some internal) = if internal.is_disabled then None else Some (found.Internal internal.command)

-- what a word stands for that names this entry of the resident list, if it names one
abbrev pub if_listed : Option Resident → Option Found
if_listed None = None
if_listed (Some entry) = Some (found.Resident entry)

-- what a word stands for at each place where it is looked up, one after another: a path is that file or that directory; any other word is
-- an internal command, an entry of the resident list, a file in the current directory, in one on the path, in C:, or else a directory
abbrev pub places_in_order : SharedState → Place → List Place → Text → List (Option Found)
places_in_order shared directory path word =
    if is_path word then file_from shared directory word ∷ directory_from shared directory word ∷ []
    else if_enabled (resident_internal shared.residents word) ∷ if_listed (entry_in shared.residents word) ∷ file_from shared directory word
    ∷ (map (file_on_path shared word) path ++ file_from shared directory (codes "C:" ++ word) ∷ directory_from shared directory word ∷ [])

-- what a word stands for, by what it stands for at each place: the first that is there
abbrev pub first_there : List (Option Found) → Found
first_there [] = found.Unknown
first_there (None ∷ others) = first_there others
first_there (Some it ∷ others) = it

-- each word stands for the first thing that is there, of the places where it is looked up
abbrev pub WordsAreLookedUpInOrder : Type 0
WordsAreLookedUpInOrder = (w : WorldState) (shell : ShellState) (word : Text) →
    stands_for w shell word ≡ first_there (places_in_order w.shared shell.parts.directory shell.parts.settings.path word)
