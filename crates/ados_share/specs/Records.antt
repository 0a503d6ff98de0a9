-- What is known of the objects of a share, each by its key.
use Rattle.std.specs.Prelude.{◌≡◌, ◌==◌, Bool, true, false, ◌&&◌, not, Option, Some, None, String, length, string_bytes}
use Rattle.std.specs.BTreeMap.{BTreeMap, get_by_text}
use Rattle.std.specs.FinMap as map
use Rattle.std.specs.Map.{update}
use Rattle.std.specs.Option.{is_some}
use Rattle.std.specs.Str.{bytes_eq}
use Rattle.ados_text.specs.Text.{Bytes}
use Rattle.ados_ram.specs.Files.{Files}
use Rattle.ados_ram.specs.Place.{key_of}
use Rattle.ados_transfer.specs.declared.records.Last.{Last}
use Rattle.ados_transfer.specs.declared.records.Last.TheVariants.{Directory, File, StandIn}
use Rattle.ados_transfer.specs.declared.records.Record.{Record}
use Rattle.ados_transfer.specs.Records.{is_kept}

-- an object with this key is one of them
abbrev pub has_key : {A X : Type 0} → BTreeMap (String A) X → Bytes → Bool
has_key map key = is_some (get_by_text map key)

-- what is known for this key is this, or nothing, and for each other key what was known before
abbrev pub Sets : {A X : Type 0} → BTreeMap (String A) X → BTreeMap (String A) X → Bytes → Option X → Type 0
Sets old new key value = (q : Bytes) → get_by_text new q ≡ update bytes_eq (get_by_text old) key value q

-- for each other key it is what was known before
abbrev pub OthersStay : {A X : Type 0} → BTreeMap (String A) X → BTreeMap (String A) X → Bytes → Type 0
OthersStay old new key = (q : Bytes) → bytes_eq key q ≡ false → get_by_text new q ≡ get_by_text old q

-- a row is that of an object with this key, and the Shell does not have what that was
abbrev pub has_left : {A : Type 0} → Files → Bytes → String A × Record → Bool
has_left files key row = bytes_eq (string_bytes row.0) key && not (is_kept row.1.last (map.get files (key_of row.1.place)))

-- an object was a file that has bytes at the last comparison
abbrev pub has_content : Last → Bool
has_content Directory = false
has_content (File bytes) = not (length bytes == 0)
has_content (StandIn comment) = false

-- the bytes of the file that an object was at the last comparison
abbrev pub file_of_last : Last → Option Bytes
file_of_last Directory = None
file_of_last (File bytes) = Some bytes
file_of_last (StandIn comment) = None

abbrev pub file_of_record : Option Record → Option Bytes
file_of_record None = None
file_of_record (Some object) = file_of_last object.last

-- the Shell has in its place what an object was at the last comparison
abbrev pub is_kept_there : Files → Option Record → Bool
is_kept_there files None = false
is_kept_there files (Some object) = is_kept object.last (map.get files (key_of object.place))

-- the Shell has in its place what an object was at the last comparison, or the object has no record any longer
abbrev pub is_settled : Files → Option Record → Bool
is_settled files None = true
is_settled files (Some object) = is_kept_there files (Some object)
