-- Global variables: each is a file of ENV:, and its value is that file's first line.
use Rattle.std.specs.Prelude.{List, [], ◌++◌, not, ◌&&◌, Option, Some, None, Result, Ok, Err, codes, if◌then◌else◌}
use Rattle.std.specs.FinMap as map
use Rattle.ados_text.specs.Text.{Text}
use Rattle.ados_text.specs.Lines.{first_line}
use Rattle.ados_text.specs.declared.codes.Result2.{Result2}
use Rattle.ados_names.specs.Path.{PathParts, path_of}
use Rattle.ados_ram.specs.Place.{key_of}
use Rattle.ados_ram.specs.Entry.{is_directory, bytes_of}
use Rattle.ados_ram.specs.Files.{Files}
use Rattle.ados_ram.specs.declared.entries.Entry.{Entry}
use Rattle.ados_assign.specs.Assigns.{AssignMap}
use Rattle.ados_assign.specs.Resolve.{resolve_path}

-- the value in the entry at a place: in a file that may be read
abbrev pub value_of : Option Entry → Option Text
value_of None = None
value_of (Some entry) = if not (is_directory entry) && entry.bits.read then Some (first_line (bytes_of entry)) else None

abbrev pub value_at : Files → Result (List Text) Result2 → Option Text
value_at files (Ok place) = value_of (map.get files (key_of place))
value_at files (Err fault) = None

abbrev pub value_by : AssignMap → Files → Result PathParts Result2 → Option Text
value_by assigns files (Ok path) = value_at files (resolve_path assigns files [] path)
value_by assigns files (Err fault) = None

-- the value of a global variable; its path names a device, so that the current directory does not matter
unfoldable pub global_of : AssignMap → Files → Text → Option Text
global_of assigns files name = value_by assigns files (path_of (codes "ENV:" ++ name))
