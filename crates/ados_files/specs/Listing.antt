-- List: objects, and what is in directories.
use Rattle.std.specs.Prelude.{ℕ, Bool, ◌||◌, cond, List, [], ◌∷◌, ◌++◌, Option, Some, None, Result, Ok, Err, option_map, if◌then◌else◌}
use Rattle.std.specs.FinMap as map
use Rattle.ados_text.specs.Text.{Text}
use Rattle.ados_text.specs.declared.codes.Result2.{Result2}
use Rattle.ados_text.specs.declared.codes.TheConstants.Result2.{NOT_IMPLEMENTED}
use Rattle.ados_pattern.specs.Meaning.{Meaning}
use Rattle.ados_readargs.specs.declared.args.Arg.{Arg}
use Rattle.ados_readargs.specs.Args.{option_texts, option_text, has_switch}
use Rattle.ados_ram.specs.Place.{Place, key_of}
use Rattle.ados_ram.specs.Entry.{is_directory}
use Rattle.ados_ram.specs.Files.{Files}
use Rattle.ados_ram.specs.FileOperations.{list_fault}
use Rattle.ados_ram.specs.Contents.{children}
use Rattle.ados_ram.specs.declared.entries.Entry.{Entry}
use Rattle.ados_find.specs.declared.codes.Codes.{Codes}
use Rattle.ados_find.specs.Shared.{SharedState}
use Rattle.ados_find.specs.Views.{View}
use Rattle.ados_find.specs.Effects.{Effect, codes_effect, if_found, unless_refused}
use Rattle.ados_find.specs.Done.{Done, fresh_work, stop_with_codes, refused_or, act_on_each, end_effect}
use Rattle.ados_find.specs.OutputFile.{output_to}
use Rattle.ados_objects.specs.Bases.{all_children, entry_at}
use Rattle.ados_files.specs.Below.{object_count}
use Rattle.ados_files.specs.Formats.{format_of}
use Rattle.ados_objects.specs.Names.{FoundPlaces, pattern_of, named_bases}
use Rattle.ados_files.specs.Options.{is_given}
use Rattle.ados_files.specs.Shapes.{group_lines}
use Rattle.ados_files.specs.Spellings.{spelled_path}
use Rattle.ados_files.specs.declared.options.TheConstants.{LIST_DIR, LIST_PAT, LIST_QUICK, LIST_FILES, LIST_DIRS, LIST_TO, LIST_SUB, LIST_LFORMAT, LIST_ALL, LIST_SINCE, LIST_UPTO}
use Rattle.ados_files.specs.declared.shapes.Shape.{Shape}

-- what List shows of places that are named by a path, given the entry at the first: directories stand for the objects in them
abbrev pub entries_of : Files → List Place → Option Entry → List Place
entries_of files places None = []
entries_of files places (Some e) = cond (is_directory e) (all_children files places) places

-- what List shows of the objects found: a path's directory stands for the objects in it, a match of a pattern for itself
abbrev pub listed_places : Files → FoundPlaces → List Place
listed_places files found = if found.literal then entries_of files found.places (entry_at files found.places) else found.places

-- prints the lines of objects, with the path before their names, and of what is below them
abbrev pub list_places : Shape → Text → Done → List Place → Done
list_places shape path done places = record done { output = done.output ++ group_lines shape done.shared.files shape.depth path places }

-- prints the lines of the objects that a text names
abbrev pub list_found : Shape → Text → Done → FoundPlaces → Done
list_found shape text done found =
    list_places shape (spelled_path done.shared.files text found) done (listed_places done.shared.files found)

-- List of a text: the lines of the objects that it names, or a stop
abbrev pub list_text : Shape → View → Done → Text → Done
list_text shape view done text = if_found (stop_with_codes done) (named_bases done.shared view.parts.directory text) (list_found shape text done)

-- List of the directory at a place: the lines of the objects in it
abbrev pub list_directory : Shape → Done → Place → Done
list_directory shape done place =
    refused_or (list_fault (map.get done.shared.files (key_of place))) done
    (list_places shape [] done (children (key_of place) (map.entries done.shared.files)))

-- List of texts in order; without any it shows the current directory
abbrev pub list_texts : Shape → View → Done → List Text → Done
list_texts shape view done [] = list_directory shape done view.parts.directory
list_texts shape view done (text ∷ texts) = act_on_each (list_text shape view) done (text ∷ texts)

-- the pattern of PAT, if it is right
abbrev pub some_pattern : Result Meaning Codes → Result (Option Meaning) Codes
some_pattern (Err codes) = Err codes
some_pattern (Ok pattern) = Ok (Some pattern)

-- the pattern of PAT, if it is given, or its fault
abbrev pub pattern_given : Option Text → Result (Option Meaning) Codes
pattern_given None = Ok None
pattern_given (Some text) = some_pattern (pattern_of text)

-- how many levels below are shown: with ALL (`all`) as many as there are objects, otherwise none
abbrev pub depth_of : Bool → Files → ℕ
depth_of all files = if all then object_count files else 0

-- what List shows, given its arguments and the pattern of PAT
abbrev pub shape_of : Files → List Arg → Option Meaning → Shape
shape_of files args pattern = record {
  pattern = pattern;
  part = option_text args LIST_SUB;
  quick = has_switch args LIST_QUICK;
  files = has_switch args LIST_FILES;
  dirs = has_switch args LIST_DIRS;
  format = option_map format_of (option_text args LIST_LFORMAT);
  depth = depth_of (has_switch args LIST_ALL) files;
}

-- List, given its arguments and the pattern of PAT
abbrev pub list_by : SharedState → View → List Arg → Option Meaning → Effect
list_by shared view args pattern = end_effect (list_texts (shape_of shared.files args pattern) view (fresh_work shared) (option_texts args LIST_DIR))

-- List without TO, given its arguments
abbrev pub list_printed : SharedState → View → List Arg → Effect
list_printed shared view args = if_found (codes_effect shared) (pattern_given (option_text args LIST_PAT)) (list_by shared view args)

-- dates are not kept, so SINCE and UPTO are refused
abbrev pub since_fault : List Arg → Option Result2
since_fault args = if is_given args LIST_SINCE || is_given args LIST_UPTO then Some NOT_IMPLEMENTED else None

-- List, given its arguments
abbrev pub list_row : SharedState → View → List Arg → Effect
list_row shared view args =
    unless_refused (codes_effect shared) (since_fault args)
    (output_to view (option_text args LIST_TO) (list_printed shared view args))
