-- Places as they are written in the files.
use Rattle.std.specs.Prelude.{[], ◌∷◌, ◌++◌, Option, Some, None, codes}
use Rattle.std.specs.FinMap as map
use Rattle.ados_text.specs.Text.{Text}
use Rattle.ados_text.specs.Name.{Name}
use Rattle.ados_ram.specs.Place.{Place, key_of}
use Rattle.ados_ram.specs.Files.{Files}
use Rattle.ados_ram.specs.declared.entries.Entry.{Entry}

-- the name as it is written in the files, if this object is there; otherwise as it is given
abbrev pub written_name : Option Entry → Name → Name
written_name None name = name
written_name (Some e) name = e.name

-- the names from a place down, as they are written in the files
abbrev pub written_names : Files → Place → Place → Place
written_names m above [] = []
written_names m above (name ∷ rest) =
    written_name (map.get m (key_of (above ++ name ∷ []))) name ∷ written_names m (above ++ name ∷ []) rest

-- a place with its names as they are written in the files
abbrev pub written_place : Files → Place → Place
written_place m place = written_names m [] place

abbrev pub slash_before : Place → Text
slash_before [] = []
slash_before (name ∷ rest) = codes "/"

-- names with a slash between each two
abbrev pub slash_joined : Place → Text
slash_joined [] = []
slash_joined (name ∷ rest) = name ++ slash_before rest ++ slash_joined rest

-- a place as a path, with its names as they are given
abbrev pub given_path : Place → Text
given_path place = codes "RAM:" ++ slash_joined place

-- the full path of a place, with its names as they are written in the files
abbrev pub full_path : Files → Place → Text
full_path m place = given_path (written_place m place)
