-- Files: a finite map from places to entries. The root exists and is a directory, each place above an existing one is a
-- directory, the largest limits hold, and each object is at the key of its names.
use Rattle.std.specs.Prelude.{◌≡◌, ◌+◌, ◌≤◌, ℕ, suc, Bool, false, not, List, [], ◌∷◌, ◌++◌, Option, Some, None, IsSome, IsTrue, codes, length}
use Rattle.std.specs.Coded.{Coded, coded_list, coded_ℕ}
use Rattle.std.specs.FinMap as map
use Rattle.ados_text.specs.Text.{Bytes, folded_text}
use Rattle.ados_text.specs.Name.{Name}
use Rattle.ados_ram.specs.Place.{Key, key_of, last_name, place_cmp}
use Rattle.ados_ram.specs.Entry.{is_directory, bytes_of, size_of, new_directory, coded_entry}
use Rattle.ados_ram.specs.Limits.{file_limit, bytes_limit, objects_limit}
use Rattle.ados_ram.specs.declared.entries.Entry.{Entry}
use Rattle.ados_ram.specs.declared.limits.Limits.{Limits}
use Rattle.ados_ram.specs.declared.limits.Limits.TheVariants.{Large}

-- the files: the entry at each place
abbrev pub Files : Type 0
Files = map.FinMap place_cmp Entry

abbrev pub coded_files : Coded Files
coded_files = map.code (coded_list (coded_list coded_ℕ)) coded_entry

-- entries with their places, in order
abbrev pub Rows : Type 0
Rows = List (Key × Entry)

-- there is a directory
abbrev pub is_some_directory : Option Entry → Bool
is_some_directory None = false
is_some_directory (Some e) = is_directory e

-- there is a file
abbrev pub is_some_file : Option Entry → Bool
is_some_file None = false
is_some_file (Some e) = not (is_directory e)

-- the bytes of the file; none if there is no file
abbrev pub entry_bytes : Option Entry → Bytes
entry_bytes None = []
entry_bytes (Some e) = bytes_of e

-- the sizes of all files together
abbrev pub total_of : Rows → ℕ
total_of [] = 0
total_of (e ∷ es) = size_of e.1 + total_of es

-- each place that may not change keeps its entry
abbrev pub OthersStay : (Key → Bool) → Files → Files → Type 0
OthersStay may_change old new = (place : Key) → may_change place ≡ false → map.get new place ≡ map.get old place

-- a tree of directories
pub record IsTree (m : Files) : Type 0 where
  pub root : IsTrue (is_some_directory (map.get m []))
  pub above : (place : Key) (name : Name) (rest : Key) → IsSome (map.get m (place ++ name ∷ rest)) → IsTrue (is_some_directory (map.get m place))

-- the files are within limits: the bytes of each, of all together, and the objects
pub record IsWithin (limits : Limits) (m : Files) : Type 0 where
  pub each_file : (place : Key) → length (entry_bytes (map.get m place)) ≤ file_limit limits
  pub all_bytes : total_of (map.entries m) ≤ bytes_limit limits
  pub objects : map.len m ≤ suc (objects_limit limits)

-- an object is named by its key: the key's names are in lower case, and its last is the object's own, in lower case
pub record IsNamedBy (key : Key) (e : Entry) : Type 0 where
  pub folded_key : key_of key ≡ key
  pub own : folded_text e.name ≡ last_name key

-- each object of the files is
abbrev pub AreNamed : Files → Type 0
AreNamed m = (key : Key) (e : Entry) → map.get m key ≡ Some e → IsNamedBy key e

-- what all files are: a tree of directories within the largest limits, in which each object is at the key of its names
pub record AreFiles (m : Files) : Type 0 where
  pub tree : IsTree m
  pub within : IsWithin Large m
  pub named : AreNamed m

-- a directory in the root
abbrev pub directory_row : Name → Key × Entry
directory_row name = (key_of (name ∷ []), new_directory name)

-- the initial files: the root with C, Env, S and T in it, and nothing in these
abbrev pub first_files : Files
first_files = map.from_entries (directory_row (codes "C") ∷ directory_row (codes "S") ∷ directory_row (codes "T") ∷ directory_row (codes "Env") ∷ ([], new_directory []) ∷ [])
