-- Full paths: each leads back to the place that it spells, from anywhere.
use Rattle.std.specs.Prelude.{◌≡◌, ◌≤◌, Ok, IsSome, IsTrue, length}
use Rattle.std.specs.List.{list_all}
use Rattle.std.specs.FinMap as map
use Rattle.ados_text.specs.Text.{Text}
use Rattle.ados_names.specs.Names.{is_name}
use Rattle.ados_names.specs.Path.{path_limit, path_of}
use Rattle.ados_ram.specs.Place.{Place, key_of}
use Rattle.ados_ram.specs.Files.{AreFiles, AreNamed, Files, IsTree}
use Rattle.ados_ram.specs.Written.{full_path, given_path, written_place}
use Rattle.ados_assign.specs.Assigns.{AssignMap}
use Rattle.ados_assign.specs.Resolve.{by_path, resolve_path}

-- a text leads to a place, whatever the assigns and the current directory are
abbrev pub LeadsTo : Files → Text → Place → Type 0
LeadsTo files text place = (assigns : AssignMap) (current : Place) → by_path (resolve_path assigns files current) (path_of text) ≡ Ok place

-- there is an object at a place, and each name that leads there is one that a path may have
pub record IsThere (files : Files) (place : Place) : Type 0 where
  pub there : IsSome (map.get files (key_of place))
  pub names : IsTrue (list_all is_name place)

-- the path of a place, with its names as they are given, leads to it
abbrev pub GivenPathsLeadBack : Type 0
GivenPathsLeadBack = (files : Files) (place : Place) → IsTree files → IsThere files place →
    length (given_path place) ≤ path_limit → LeadsTo files (given_path place) place

-- a place with its names as they are written in the files is the same place
abbrev pub WrittenPlacesAreTheSame : Type 0
WrittenPlacesAreTheSame = (files : Files) (place : Place) → AreNamed files → key_of (written_place files place) ≡ key_of place

-- the full path of a place leads to it, as it is written in the files
abbrev pub FullPathsLeadBack : Type 0
FullPathsLeadBack = (files : Files) (place : Place) → AreFiles files → IsThere files place →
    length (full_path files place) ≤ path_limit → LeadsTo files (full_path files place) (written_place files place)
