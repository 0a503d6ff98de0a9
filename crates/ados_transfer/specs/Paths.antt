-- Paths of this machine: that they stay in a folder.
use Rattle.std.specs.Prelude.{◌≡◌, [], ◌++◌, Bool, true, ◌==◌, ◌||◌, ◌&&◌, not, codes, length, if◌then◌else◌}
use Rattle.std.specs.List.{list_any, starts_with, ends_with}
use Rattle.std.specs.Str.{bytes_eq}
use Rattle.ados_text.specs.Text.{Bytes}

-- the name of an object in a folder: it is not empty, has no slash, and leads neither to the folder itself nor to the one above
abbrev pub is_file_name : Bytes → Bool
is_file_name name = not (bytes_eq name []) && (not (bytes_eq name (codes ".")) && (not (bytes_eq name (codes "..")) && not (list_any (λ b. b == 47) name)))

-- The name is not shared: it begins with a dot, unless all names are shared, it is that of a temporary file, or it leads elsewhere.
abbrev pub is_unshared : Bytes → Bool → Bool
is_unshared name all =
    (starts_with ◌==◌ name (codes ".") && not all) || (starts_with ◌==◌ name (codes ".amishell-execute.") || (bytes_eq name (codes ".") || bytes_eq name (codes "..")))

-- what stands between a folder and a name in it
abbrev pub separator : Bytes → Bytes
separator folder = if length folder == 0 || ends_with ◌==◌ folder (codes "/") then [] else codes "/"

-- the path of a name in a folder
abbrev pub path_in : Bytes → Bytes → Bytes
path_in folder name = (folder ++ separator folder) ++ name

-- The path leads from the folder by steps, each into what the one before led to: so it leads to the folder or to what is in it.
pub data IsBelow (folder : Bytes) : Bytes → Type 0 where
  Itself : IsBelow folder folder
  Step : (path name : Bytes) → IsBelow folder path → is_file_name name ≡ true → IsBelow folder (path_in path name)
