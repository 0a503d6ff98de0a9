-- The cache: resolved paths, each with the place that resolving gives.
use Rattle.std.specs.Prelude.{◌≡◌, List, ◌∷◌, Ok}
use Rattle.std.specs.List.{All, Contains}
use Rattle.ados_text.specs.Text.{Text}
use Rattle.ados_names.specs.Path.{path_of}
use Rattle.ados_ram.specs.Place.{Place}
use Rattle.ados_ram.specs.Files.{Files}
use Rattle.ados_assign.specs.Assigns.{AssignMap}
use Rattle.ados_assign.specs.Resolve.{Resolved, by_path, resolve_path}
use Rattle.ados_find.specs.declared.cache.Known.{Known}

-- where the path of a text leads from a directory
abbrev pub text_resolved : AssignMap → Files → Place → Text → Resolved
text_resolved assigns files directory text = by_path (resolve_path assigns files directory) (path_of text)

-- a path that is cached with a place leads to that place
abbrev pub IsResolved : AssignMap → Files → Known → Type 0
IsResolved assigns files known = text_resolved assigns files known.directory known.path ≡ Ok known.place

-- each path that is cached leads to the place that is cached with it
abbrev pub AreResolved : AssignMap → Files → List Known → Type 0
AreResolved assigns files pairs = All (IsResolved assigns files) pairs

-- what is cached after a pair was added: it was cached before, or is the pair
unfoldable pub IsKept : List Known → Known → List Known → Type 0
IsKept old pair new = All (Contains (pair ∷ old)) new
