-- What FROM of Copy, Rename and Search names; the files that Copy copies of that, with their paths below TO.
use Rattle.std.specs.Prelude.{Bool, false, cond, List, [], ◌∷◌, ◌++◌, drop, length, Option, Some, None, Result, Ok, Err}
use Rattle.std.specs.FinMap as map
use Rattle.ados_text.specs.Text.{Text}
use Rattle.ados_ram.specs.Place.{Place, key_of}
use Rattle.ados_ram.specs.Entry.{is_directory}
use Rattle.ados_ram.specs.Files.{Files}
use Rattle.ados_ram.specs.Contents.{directory_files}
use Rattle.ados_ram.specs.Written.{written_place}
use Rattle.ados_ram.specs.declared.entries.Entry.{Entry}
use Rattle.ados_find.specs.declared.codes.Codes.{Codes}
use Rattle.ados_find.specs.Shared.{SharedState}
use Rattle.ados_objects.specs.Names.{FoundPlaces, named_places}
use Rattle.ados_files.specs.declared.jobs.Job.{Job}

-- the objects with these places before those of what follows, or the refusal of that
abbrev pub prepend_places : List Place → Result FoundPlaces Codes → Result FoundPlaces Codes
prepend_places places (Err codes) = Err codes
prepend_places places (Ok more) = Ok (record more { places = places ++ more.places })

-- the objects of one argument and of those after it, in order, or the first refusal
abbrev pub found_in_order : Result FoundPlaces Codes → Result FoundPlaces Codes → Result FoundPlaces Codes
found_in_order (Err codes) more = Err codes
found_in_order (Ok found) more = prepend_places found.places more

-- the objects that several arguments name, in order, or the first refusal
abbrev pub gathered_places : SharedState → Place → List Text → Result FoundPlaces Codes
gathered_places shared directory [] = Ok (record { literal = false; places = [] })
gathered_places shared directory (text ∷ texts) = found_in_order (named_places shared directory text) (gathered_places shared directory texts)

-- what the arguments name: just one object by its path only if there is one argument
abbrev pub sources_of : SharedState → Place → List Text → Result FoundPlaces Codes
sources_of shared directory [] = gathered_places shared directory []
sources_of shared directory (text ∷ []) = named_places shared directory text
sources_of shared directory (text ∷ next ∷ texts) = gathered_places shared directory (text ∷ next ∷ texts)

-- the copy of a file below a directory: it keeps its path below the directory, with its names as they are written
abbrev pub directory_job : Files → Place → Place → Job
directory_job files directory place = record { source = place; names = drop (length directory) (written_place files place) }

-- the copies of files below a directory, in order: each keeps its path below it
abbrev pub directory_jobs : Files → Place → List Place → List Job
directory_jobs files directory [] = []
directory_jobs files directory (place ∷ places) = directory_job files directory place ∷ directory_jobs files directory places

-- the copies that a source stands for, given its entry: a directory for those of its files, with ALL (`all`) of all files below it; a file
-- keeps its name
abbrev pub source_jobs : Bool → Files → Place → Option Entry → List Job
source_jobs all files place None = []
source_jobs all files place (Some e) =
    cond (is_directory e) (directory_jobs files place (directory_files all (key_of place) (map.entries files)))
    (record { source = place; names = e.name ∷ [] } ∷ [])

-- the copies that sources stand for, in order
abbrev pub all_jobs : Bool → Files → List Place → List Job
all_jobs all files [] = []
all_jobs all files (place ∷ places) = source_jobs all files place (map.get files (key_of place)) ++ all_jobs all files places

-- the copies of files to TO itself
abbrev pub target_jobs : List Place → List Job
target_jobs [] = []
target_jobs (place ∷ places) = record { source = place; names = [] } ∷ target_jobs places
