-- Which objects of the Shell are never written to the folder of a share.
use Rattle.std.specs.Prelude.{Bool, List, String, Option, Some, None, ◌++◌, ◌&&◌, ◌||◌, filter, not, string_bytes}
use Rattle.std.specs.BTreeMap.{BTreeMap}
use Rattle.std.specs.List.{list_any}
use Rattle.std.specs.Str.{bytes_eq}
use Rattle.ados_text.specs.Text.{Bytes}
use Rattle.ados_ram.specs.declared.entries.Body.{Body}
use Rattle.ados_ram.specs.declared.entries.Body.TheVariants.{Directory, File}
use Rattle.ados_transfer.specs.Folders.{hides, is_descendant}
use Rattle.ados_transfer.specs.declared.folders.Unread.{Unread}
use Rattle.ados_share.specs.Records.{has_key}

-- a key is that of one of two objects with the key `twice`, or below one, and none of those is known
abbrev pub is_taken : {A X : Type 0} → BTreeMap (String A) X → Bytes → Bytes → Bool
is_taken records twice key = (bytes_eq twice key || is_descendant twice key) && not (has_key records twice)

-- so is it with one of these keys
abbrev pub is_taken_twice : {A X : Type 0} → BTreeMap (String A) X → List (String A) → Bytes → Bool
is_taken_twice records all key = list_any (λ twice. is_taken records (string_bytes twice) key) all

-- the keys that are taken twice after a look: those that it found, and those before that it could not see
abbrev pub twice_after : {A : Type 0} → List (String A) → List Unread → List (String A) → List (String A)
twice_after found unread before = found ++ filter (λ key. list_any (hides (string_bytes key)) unread) before

-- what an object holds if it is a file
abbrev pub bytes_in : Body → Option Bytes
bytes_in Directory = None
bytes_in (File bytes) = Some bytes
