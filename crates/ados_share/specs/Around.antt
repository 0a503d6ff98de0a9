-- Bytes that stand among others.
use Rattle.std.specs.Prelude.{Bool, false, ◌||◌, ◌&&◌, not, nat_eq, nat_le, [], ◌∷◌, length, Option, None, Some, String, string_bytes, if◌then◌else◌}
use Rattle.std.specs.BTreeMap.{BTreeMap, get_by_text}
use Rattle.std.specs.List.{starts_with}
use Rattle.std.specs.Str.{bytes_eq}
use Rattle.ados_text.specs.Text.{Bytes}
use Rattle.ados_transfer.specs.declared.records.Record.{Record}
use Rattle.ados_share.specs.Records.{file_of_record}

-- some bytes stand in others: these begin with them, or have them behind their first byte
abbrev pub stands_in : Bytes → Bytes → Bool
stands_in part [] = starts_with nat_eq [] part
stands_in part (byte ∷ all) = starts_with nat_eq (byte ∷ all) part || stands_in part all

-- some bytes are kept within others: these begin with them, or have them anywhere and they are 16 or more, since fewer stand in others by chance
abbrev pub is_within : Bytes → Bytes → Bool
is_within part all = starts_with nat_eq all part || (nat_le 16 (length part) && stands_in part all)

-- the file within which some bytes are kept, if there is a file
abbrev pub file_around : Bytes → Option Bytes → Option Bytes
file_around part None = None
file_around part (Some all) = if is_within part all then Some all else None

-- the object with this key was a file at the last comparison, and some bytes are kept within that
abbrev pub is_within_file : Bytes → Option Bytes → Bool
is_within_file part None = false
is_within_file part (Some all) = is_within part all

abbrev pub keeps_within : {A : Type 0} → Bytes → BTreeMap (String A) Record → Bytes → Bool
keeps_within part records key = is_within_file part (file_of_record (get_by_text records key))

-- a row is that of an object with this key, and some bytes are not kept within its file
abbrev pub lets_go : {A B X : Type 0} → Bytes → BTreeMap (String A) Record → Bytes → String B × X → Bool
lets_go part records key row = bytes_eq (string_bytes row.0) key && not (keeps_within part records (string_bytes row.0))
