-- What Copy, Delete and Rename may change. Each other place keeps its entry.
use Rattle.std.specs.Prelude.{Bool, false, ◌||◌, List, [], ◌∷◌, Option, Some, None, Result, Ok, Err}
use Rattle.ados_text.specs.Text.{Text}
use Rattle.ados_readargs.specs.declared.args.Arg.{Arg}
use Rattle.ados_readargs.specs.Args.{option_texts, option_text, has_switch}
use Rattle.ados_ram.specs.Place.{Place, Key, key_of, is_at_or_below}
use Rattle.ados_find.specs.declared.codes.Codes.{Codes}
use Rattle.ados_find.specs.Done.{Done, fresh_work}
use Rattle.ados_find.specs.Shared.{SharedState}
use Rattle.ados_find.specs.Views.{View}
use Rattle.ados_find.specs.Paths.{place_of}
use Rattle.ados_objects.specs.Acts.{at_names}
use Rattle.ados_files.specs.Delete.{delete_place, delete_manner}
use Rattle.ados_objects.specs.Names.{FoundPlaces, named_places}
use Rattle.ados_files.specs.Rename.{rename_sources}
use Rattle.ados_files.specs.declared.options.TheConstants.{COPY_TO, DELETE_FILE, DELETE_ALL, RENAME_FROM, RENAME_TO}
use Rattle.ados_files.specs.declared.rename.Sources.{Sources}
use Rattle.ados_files.specs.declared.rename.Sources.TheVariants.{Alone, Several}

-- there is a place, and the key is at it or below it
abbrev pub is_under : Result Place Codes → Key → Bool
is_under (Err codes) key = false
is_under (Ok place) key = is_at_or_below (key_of place) key

-- the key is at or below the place to which a path leads; no path, or a wrong one, leads to none
abbrev pub is_under_path : SharedState → View → Option Text → Key → Bool
is_under_path shared view None key = false
is_under_path shared view (Some text) key = is_under (place_of shared view.parts.directory text) key

-- the key is at or below one of the places
abbrev pub is_under_any : List Place → Key → Bool
is_under_any [] key = false
is_under_any (place ∷ places) key = is_at_or_below (key_of place) key || is_under_any places key

-- the key is at or below one of the objects found
abbrev pub is_under_found : Result FoundPlaces Codes → Key → Bool
is_under_found (Err codes) key = false
is_under_found (Ok found) key = is_under_any found.places key

-- the key is at or below an object that one of the arguments names, each in the files as those before it left them (`act` works on one): if
-- M: has two directories and both have x, the second of two arguments M:x names the other x
abbrev pub is_under_worked : (Done → Text → Done) → View → Done → List Text → Key → Bool
is_under_worked act view done [] key = false
is_under_worked act view done (text ∷ texts) key =
    is_under_found (named_places done.shared view.parts.directory text) key || is_under_worked act view (act done text) texts key

-- Copy may change the entry at this key: it is that of TO, or below it
abbrev pub copy_may_change : SharedState → View → List Arg → Key → Bool
copy_may_change shared view args key = is_under_path shared view (option_text args COPY_TO) key

-- Delete may change the entry at this key: it is an object that one of its arguments names when its turn comes, or below it
abbrev pub delete_may_change : SharedState → View → List Arg → Key → Bool
delete_may_change shared view args key =
    is_under_worked (at_names (delete_place view (has_switch args DELETE_ALL) (delete_manner args)) view) view (fresh_work shared) (option_texts args DELETE_FILE) key

-- the key is at or below what FROM of Rename names
abbrev pub is_under_sources : Result Sources Codes → Key → Bool
is_under_sources (Err codes) key = false
is_under_sources (Ok (Alone place)) key = is_at_or_below (key_of place) key
is_under_sources (Ok (Several found)) key = is_under_any found.places key

-- Rename may change the entry at this key: it is what FROM names, or TO, or below these
abbrev pub rename_may_change : SharedState → View → List Arg → Key → Bool
rename_may_change shared view args key =
    is_under_sources (rename_sources shared view.parts.directory (option_texts args RENAME_FROM)) key || is_under_path shared view (option_text args RENAME_TO) key
