-- The paths of the volumes of a share.
use Rattle.std.specs.Prelude.{◌≡◌, ◌⊎◌, Bool, [], ◌∷◌, ◌++◌, ◌==◌, ◌||◌, codes, length, if◌then◌else◌}
use Rattle.std.specs.Str.{bytes_eq}
use Rattle.ados_text.specs.Text.{Bytes}
use Rattle.ados_transfer.specs.Folders.{is_descendant}
use Rattle.ados_transfer.specs.Paths.{path_in}

-- What follows a label in a path: all of it if there is no label, nothing if the path is the label, or what comes after it and a slash.
abbrev pub Follows : Bytes → Bytes → Bytes → Type 0
Follows label path below = ((label ≡ []) × (path ≡ below)) ⊎ (((path ≡ label) × (below ≡ [])) ⊎ (path ≡ label ++ 47 ∷ below))

-- the path of this machine by which what is below a folder is used, given that of the folder
abbrev pub real_path : Bytes → Bytes → Bytes
real_path root below = path_in root (if length below == 0 then codes "." else below)

-- a whole path leads to what is in a folder; all is in the root
abbrev pub is_within : Bytes → Bytes → Bool
is_within folder path = bytes_eq folder (codes "/") || is_descendant folder path

-- two folders, by their whole paths, are the same, or one is in the other
abbrev pub meet : Bytes → Bytes → Bool
meet path other = bytes_eq path other || (is_within path other || is_within other path)
