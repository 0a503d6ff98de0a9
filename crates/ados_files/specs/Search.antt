-- Search: the lines of files in which a text stands.
use Rattle.std.specs.Prelude.{Bool, true, false, cond, not, List, [], ◌∷◌, ◌++◌, Option, Some, None, Result, Ok, Err, if◌then◌else◌}
use Rattle.std.specs.FinMap as map
use Rattle.ados_text.specs.Text.{Text}
use Rattle.ados_text.specs.declared.codes.TheConstants.Result2.{NONE}
use Rattle.ados_readargs.specs.declared.args.Arg.{Arg}
use Rattle.ados_readargs.specs.Args.{has_switch, option_text, option_texts}
use Rattle.ados_pattern.specs.Meaning.{Meaning, anywhere}
use Rattle.ados_ram.specs.Place.{Place, key_of}
use Rattle.ados_ram.specs.Entry.{is_directory}
use Rattle.ados_ram.specs.Files.{Files}
use Rattle.ados_ram.specs.Contents.{directory_files}
use Rattle.ados_ram.specs.declared.entries.Entry.{Entry}
use Rattle.ados_find.specs.declared.codes.Codes.{Codes}
use Rattle.ados_find.specs.Codes.{warning_codes, went_well}
use Rattle.ados_find.specs.Shared.{SharedState}
use Rattle.ados_find.specs.Views.{View}
use Rattle.ados_find.specs.Effects.{Effect, codes_effect, if_found, if_given}
use Rattle.ados_files.specs.Hits.{Hits, search_files}
use Rattle.ados_files.specs.Jobs.{sources_of}
use Rattle.ados_objects.specs.Names.{FoundPlaces, pattern_of}
use Rattle.ados_files.specs.declared.hits.Searching.{Searching}
use Rattle.ados_files.specs.declared.hits.Wanted.{Wanted}
use Rattle.ados_files.specs.declared.hits.Wanted.TheVariants.{Inside, Matching}
use Rattle.ados_files.specs.declared.options.TheConstants.{SEARCH_FROM, SEARCH_TEXT, SEARCH_ALL, SEARCH_NONUM, SEARCH_QUIET, SEARCH_FILE, SEARCH_PATTERN}

-- what PATTERN looks for: the pattern with any texts before and after it
abbrev pub wanted_pattern : Meaning → Result Wanted Codes
wanted_pattern pattern = Ok (Matching (anywhere pattern))

-- what a text asks for: with PATTERN (`true`) the text as a pattern anywhere, otherwise the text itself
abbrev pub wanted_of : Bool → Text → Result Wanted Codes
wanted_of false text = Ok (Inside text)
wanted_of true text = if_found Err (pattern_of text) wanted_pattern

-- how Search looks for what is wanted, by its arguments: NONUM, QUIET and FILE
abbrev pub searching_of : List Arg → Wanted → Searching
searching_of args wanted = record {
  wanted = wanted;
  numbered = not (has_switch args SEARCH_NONUM);
  quiet = has_switch args SEARCH_QUIET;
  names = has_switch args SEARCH_FILE;
}

-- what FROM names; without it the current directory
abbrev pub search_sources : SharedState → Place → List Text → Result FoundPlaces Codes
search_sources shared directory [] = Ok (record { literal = false; places = directory ∷ [] })
search_sources shared directory (text ∷ texts) = sources_of shared directory (text ∷ texts)

-- the files that an object, by its entry, stands for: a file for itself, a directory for its files, with ALL (`all`) for all below it
abbrev pub object_files : Bool → Files → Place → Option Entry → List Place
object_files all files place None = []
object_files all files place (Some e) = cond (is_directory e) (directory_files all (key_of place) (map.entries files)) (place ∷ [])

-- the files that these places stand for, with ALL (`all`) all below a directory, in order
abbrev pub searched_files : Bool → Files → List Place → List Place
searched_files all files [] = []
searched_files all files (place ∷ places) = object_files all files place (map.get files (key_of place)) ++ searched_files all files places

-- prints the hits; no hit at all is a warning
abbrev pub hits_effect : SharedState → Hits → Effect
hits_effect shared hits = record (codes_effect shared (if hits.has_hit then went_well else warning_codes NONE)) { output = hits.output }

-- nothing was found or printed yet
abbrev pub no_hits : Hits
no_hits = record { output = []; has_hit = false }

-- Search of the objects found for what is wanted
abbrev pub search_found : SharedState → View → List Arg → Wanted → FoundPlaces → Effect
search_found shared view args wanted found =
    hits_effect shared (search_files (searching_of args wanted) view.busy shared.files no_hits (searched_files (has_switch args SEARCH_ALL) shared.files found.places))

-- Search for what is wanted, by FROM; all of FROM is looked up before anything is printed
abbrev pub search_wanted : SharedState → View → List Arg → Wanted → Effect
search_wanted shared view args wanted =
    if_found (codes_effect shared) (search_sources shared view.parts.directory (option_texts args SEARCH_FROM)) (search_found shared view args wanted)

-- Search for a text; the faults of a pattern come before those of FROM
abbrev pub search_for : SharedState → View → List Arg → Text → Effect
search_for shared view args text = if_found (codes_effect shared) (wanted_of (has_switch args SEARCH_PATTERN) text) (search_wanted shared view args)

-- Search, given its arguments; the template ensures that the text is not missing
abbrev pub search_row : SharedState → View → List Arg → Effect
search_row shared view args = if_given (codes_effect shared) (option_text args SEARCH_TEXT) (search_for shared view args)
