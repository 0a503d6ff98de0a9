-- Arguments that name objects: a path, whose last piece may be a pattern of names.
use Rattle.std.specs.Prelude.{List, [], ◌∷◌, ◌++◌, take, drop, Bool, true, false, cond, Option, Some, None, Result, Ok, Err}
use Rattle.std.specs.FinMap as map
use Rattle.ados_text.specs.Text.{Text}
use Rattle.ados_text.specs.declared.codes.TheConstants.Result2.{LINE_TOO_LONG, DIRECTORY_NOT_FOUND, OBJECT_NOT_FOUND, INVALID_NAME, WRONG_TYPE, NO_FREE_STORE}
use Rattle.ados_pattern.specs.Form.{Form}
use Rattle.ados_pattern.specs.Meaning.{Meaning, meaning_of}
use Rattle.ados_pattern.specs.Fault.{fault_of}
use Rattle.ados_pattern.specs.declared.errors.PatternFault.{PatternFault}
use Rattle.ados_pattern.specs.declared.errors.PatternFault.TheVariants.{BadPattern, TooLong, NoMemory}
use Rattle.ados_names.specs.Path.{last_piece_of}
use Rattle.ados_ram.specs.Place.{Place, key_of}
use Rattle.ados_ram.specs.Entry.{is_directory}
use Rattle.ados_ram.specs.Files.{Files}
use Rattle.ados_ram.specs.declared.entries.Entry.{Entry}
use Rattle.ados_find.specs.declared.codes.Codes.{Codes}
use Rattle.ados_find.specs.Codes.{error_codes, warning_codes}
use Rattle.ados_find.specs.Effects.{if_found}
use Rattle.ados_find.specs.Shared.{SharedState}
use Rattle.ados_find.specs.Paths.{place_of, bases_of}
use Rattle.ados_pattern.specs.Matching.{is_match}
use Rattle.ados_objects.specs.Bases.{all_children, entry_at}

-- what a command returns for a text that is not a pattern
abbrev pub pattern_codes : PatternFault → Codes
pattern_codes (BadPattern place) = error_codes INVALID_NAME
pattern_codes TooLong = error_codes LINE_TOO_LONG
pattern_codes NoMemory = error_codes NO_FREE_STORE

-- what a pattern says, or the codes of the fault that its text has
abbrev pub pattern_unless : Option PatternFault → Meaning → Result Meaning Codes
pattern_unless None meaning = Ok meaning
pattern_unless (Some fault) meaning = Err (pattern_codes fault)

-- what a text says as a pattern, or the codes of its fault
abbrev pub pattern_of : Text → Result Meaning Codes
pattern_of text = pattern_unless (fault_of text) (meaning_of text)

-- the objects that an argument names; `literal` says that it names them by a path, not by a pattern
pub record FoundPlaces : Type 0 where
  pub literal : Bool
  pub places : List Place

-- there is an entry, and its name matches the pattern
abbrev pub matches_form : Form → Option Entry → Bool
matches_form form None = false
matches_form form (Some e) = is_match form e.name

-- those of the places at which there is an entry whose name matches the pattern
abbrev pub matching_places : Form → Files → List Place → List Place
matching_places form files [] = []
matching_places form files (place ∷ places) =
    cond (matches_form form (map.get files (key_of place))) (place ∷ matching_places form files places) (matching_places form files places)

-- the places that a pattern matches, or a warning if there are none
abbrev pub some_matches : List Place → Result FoundPlaces Codes
some_matches [] = Err (warning_codes OBJECT_NOT_FOUND)
some_matches (place ∷ places) = Ok (record { literal = false; places = place ∷ places })

-- the objects in the directories `bases` that match the pattern, in order; the last parameter is the entry at the first of the directories,
-- none if it does not exist
abbrev pub directory_matches : Form → Files → List Place → Option Entry → Result FoundPlaces Codes
directory_matches form files bases None = Err (error_codes DIRECTORY_NOT_FOUND)
directory_matches form files bases (Some e) =
    cond (is_directory e) (some_matches (matching_places form files (all_children files bases))) (Err (error_codes WRONG_TYPE))

-- the one object at a place, given the entry there; a fault if there is none
abbrev pub the_one : Place → Option Entry → Result FoundPlaces Codes
the_one place None = Err (error_codes OBJECT_NOT_FOUND)
the_one place (Some e) = Ok (record { literal = true; places = place ∷ [] })

-- the objects in the directories `bases` that match the pattern, in order
abbrev pub matches_at : Form → Files → List Place → Result FoundPlaces Codes
matches_at form files bases = directory_matches form files bases (entry_at files bases)

-- the one object at a place; a fault if there is none
abbrev pub single_match : Files → Place → Result FoundPlaces Codes
single_match files place = the_one place (map.get files (key_of place))

-- the objects named by a path `head` and the piece after it: a literal piece, whose name is the last parameter, is one object at that path;
-- a pattern stands for its matches in all directories of the path
abbrev pub places_by_form : SharedState → Place → Text → Form → Option Text → Result FoundPlaces Codes
places_by_form shared directory head form (Some name) = if_found Err (place_of shared directory (head ++ name)) (single_match shared.files)
places_by_form shared directory head form None = if_found Err (bases_of shared directory head) (matches_at form shared.files)

-- the objects named by a path `head` and the piece after it, given what that piece says as a pattern
abbrev pub places_by_meaning : SharedState → Place → Text → Meaning → Result FoundPlaces Codes
places_by_meaning shared directory head pattern = places_by_form shared directory head pattern.form pattern.name

-- the path before the last piece of a text
abbrev pub directory_part : Text → Text
directory_part text = take (last_piece_of text) text

-- the last piece of a text, behind the path
abbrev pub piece_of : Text → Text
piece_of text = drop (last_piece_of text) text

-- the objects that an argument names: a path whose last piece is a name or a pattern
abbrev pub named_places : SharedState → Place → Text → Result FoundPlaces Codes
named_places shared directory text = if_found Err (pattern_of (piece_of text)) (places_by_meaning shared directory (directory_part text))

-- the directories `bases` for which a literal path stands, given the entry at the first; a fault if there is none
abbrev pub bases_there : List Place → Option Entry → Result FoundPlaces Codes
bases_there bases None = Err (error_codes OBJECT_NOT_FOUND)
bases_there bases (Some e) = Ok (record { literal = true; places = bases })

-- the directories `bases` for which a literal path stands; a fault if there is none
abbrev pub bases_at : Files → List Place → Result FoundPlaces Codes
bases_at files bases = bases_there bases (entry_at files bases)

-- the objects named by a path `head` and the piece after it: a literal piece, whose name is the last parameter, stands for all directories
-- of the whole path, as a device alone may; a pattern for its matches in all directories of `head`
abbrev pub bases_by_form : SharedState → Place → Text → Form → Option Text → Result FoundPlaces Codes
bases_by_form shared directory head form (Some name) = if_found Err (bases_of shared directory (head ++ name)) (bases_at shared.files)
bases_by_form shared directory head form None = if_found Err (bases_of shared directory head) (matches_at form shared.files)

-- the objects named by a path `head` and the piece after it, given what that piece says as a pattern; a literal path stands for all its
-- directories
abbrev pub bases_with : SharedState → Place → Text → Meaning → Result FoundPlaces Codes
bases_with shared directory head pattern = bases_by_form shared directory head pattern.form pattern.name

-- the objects that an argument names; a literal path that stands for several directories, as a device alone may, names them all
abbrev pub named_bases : SharedState → Place → Text → Result FoundPlaces Codes
named_bases shared directory text = if_found Err (pattern_of (piece_of text)) (bases_with shared directory (directory_part text))
