-- Objects with all that is below them.
use Rattle.std.specs.Prelude.{ℕ, zero, suc, Bool, true, false, List, [], ◌∷◌, ◌++◌, length}
use Rattle.std.specs.List.{flat_map}
use Rattle.std.specs.FinMap as map
use Rattle.ados_ram.specs.Place.{Place, key_of}
use Rattle.ados_ram.specs.Files.{Files}
use Rattle.ados_ram.specs.Contents.{children, contents}
use Rattle.ados_find.specs.Done.{Done, act_on_each}

-- the objects directly in the directory at a place, in order; a file has none
abbrev pub objects_in : Files → Place → List Place
objects_in files place = children (key_of place) (map.entries files)

-- the number of objects: no directory has more levels below it
abbrev pub object_count : Files → ℕ
object_count files = length (contents [] (map.entries files))

-- a place alone in a list; the root is passed over
abbrev pub unless_root : Place → List Place
unless_root [] = []
unless_root (name ∷ names) = (name ∷ names) ∷ []

-- the object at a place and what is at most so many levels below it: a directory before its contents, in order; the root itself is passed
-- over
abbrev pub objects_down : ℕ → Files → Place → List Place
objects_down zero files place = unless_root place
objects_down (suc levels) files place = unless_root place ++ flat_map (objects_down levels files) (objects_in files place)

-- what a place stands for: itself, or with ALL (`true`) itself and all that is below it
abbrev pub objects_of : Bool → Files → Place → List Place
objects_of true files place = objects_down (object_count files) files place
objects_of false files place = place ∷ []

-- does `act` on each of the objects that a place stands for in the files as they are by then
abbrev pub on_all : Bool → (Done → Place → Done) → Done → Place → Done
on_all all act done place = act_on_each act done (objects_of all done.shared.files place)
