-- What List shows of objects, and of what is below them.
use Rattle.std.specs.Prelude.{ℕ, zero, suc, Bool, true, false, cond, ◌&&◌, List, [], ◌∷◌, ◌++◌, Option, Some, None, if◌then◌else◌}
use Rattle.std.specs.List.{flat_map}
use Rattle.std.specs.FinMap as map
use Rattle.ados_text.specs.Text.{Bytes, Text}
use Rattle.ados_pattern.specs.Meaning.{Meaning}
use Rattle.ados_pattern.specs.Matching.{is_match}
use Rattle.ados_ram.specs.Place.{Place, key_of}
use Rattle.ados_ram.specs.Entry.{is_directory}
use Rattle.ados_ram.specs.Files.{Files}
use Rattle.ados_ram.specs.Contents.{children}
use Rattle.ados_ram.specs.declared.entries.Entry.{Entry}
use Rattle.ados_objects.specs.Lines.{keeps, entry_lines, list_line}
use Rattle.ados_files.specs.Formats.{format_line}
use Rattle.ados_files.specs.Parts.{stands_in}
use Rattle.ados_files.specs.declared.formats.Part.{Part}
use Rattle.ados_files.specs.declared.shapes.Shape.{Shape}

-- PAT keeps an object: its name matches the pattern, or there is no pattern
abbrev pub passes : Option Meaning → Entry → Bool
passes None e = true
passes (Some pattern) e = is_match pattern.form e.name

-- SUB keeps an object: its text stands in the name, or there is no text
abbrev pub has_part : Option Text → Entry → Bool
has_part None e = true
has_part (Some part) e = stands_in part e.name

-- an object is shown: FILES shows files alone, DIRS directories alone; both or neither show both
abbrev pub is_selected : Shape → Entry → Bool
is_selected shape e = cond (is_directory e) (keeps shape.dirs shape.files) (keeps shape.files shape.dirs)

-- the line of an object without LFORMAT: QUICK (`true`) shows the name alone
abbrev pub plain_line : Bool → Entry → Bytes
plain_line true e = e.name ++ 10 ∷ []
plain_line false e = list_line e

-- the line of an object: LFORMAT shows its own line, with the path before the name; without it there is the plain one
abbrev pub shown_line : Option (List Part) → Bool → Text → Entry → Bytes
shown_line None quick path e = plain_line quick e
shown_line (Some format) quick path e = format_line format path e

-- the line of an object, if FILES, DIRS, PAT and SUB keep it, and nothing otherwise
abbrev pub kept_line : Shape → Text → Entry → Bytes
kept_line shape path e =
    if is_selected shape e && has_part shape.part e && passes shape.pattern e then shown_line shape.format shape.quick path e else []

-- the line of an object by its entry: nothing if there is none
abbrev pub line_by_shape : Shape → Text → Option Entry → Bytes
line_by_shape shape path None = []
line_by_shape shape path (Some e) = kept_line shape path e

-- the lines of the objects in a directory by its entry, if it is one; `lines` gives the lines of objects with a path before their names
abbrev pub lines_inside : (Text → List Place → Bytes) → Files → Text → Place → Option Entry → Bytes
lines_inside lines files path place None = []
lines_inside lines files path place (Some e) = cond (is_directory e) (lines (path ++ (e.name ++ 47 ∷ [])) (children (key_of place) (map.entries files))) []

-- the lines of the objects in the directory at a place, if one is there; `lines` gives the lines of objects with a path before their names
abbrev pub directory_lines : (Text → List Place → Bytes) → Files → Text → Place → Bytes
directory_lines lines files path place = lines_inside lines files path place (map.get files (key_of place))

-- the lines of objects with a path before their names, and behind them those of the objects in each directory among them, and of what is
-- below it in the same way, down to a depth
abbrev pub group_lines : Shape → Files → ℕ → Text → List Place → Bytes
group_lines shape files zero path places = entry_lines (line_by_shape shape path) files places
group_lines shape files (suc depth) path places =
    entry_lines (line_by_shape shape path) files places ++ flat_map (directory_lines (group_lines shape files depth) files path) places
