-- Which objects of the folder of a share may have changed.
use Rattle.std.specs.Prelude.{Bool, true, false, ◌&&◌, not, Option, Some, None, String, string_bytes}
use Rattle.std.specs.BTreeMap.{BTreeMap, get_by_text}
use Rattle.std.specs.FinMap as map
use Rattle.std.specs.List.{list_any}
use Rattle.std.specs.Str.{bytes_eq}
use Rattle.ados_text.specs.Text.{Bytes}
use Rattle.ados_ram.specs.declared.entries.Entry.{Entry}
use Rattle.ados_ram.specs.Files.{Files}
use Rattle.ados_ram.specs.Place.{key_of}
use Rattle.ados_transfer.specs.declared.folders.Kind.{Kind}
use Rattle.ados_transfer.specs.declared.folders.Kind.TheVariants.{Directory as Folder, File as AnyFile, Foreign}
use Rattle.ados_transfer.specs.declared.folders.Look.{Look}
use Rattle.ados_transfer.specs.declared.folders.Seen.{Seen}
use Rattle.ados_transfer.specs.declared.decision.Decision.{Decision}
use Rattle.ados_transfer.specs.declared.decision.Decision.TheVariants.{Bring, Conflict}
use Rattle.ados_transfer.specs.declared.here.Here.{Here}
use Rattle.ados_transfer.specs.declared.here.Here.TheVariants.{File as AFile}
use Rattle.ados_transfer.specs.declared.stamps.Stamp.{Stamp}
use Rattle.ados_transfer.specs.declared.records.Record.{Record}
use Rattle.ados_transfer.specs.declared.records.Last.{Last}
use Rattle.ados_transfer.specs.declared.records.Last.TheVariants.{Directory, File, StandIn}
use Rattle.ados_share.specs.Records.{has_key}
use Rattle.ados_transfer.specs.Decisions.{is_same_stamp}
use Rattle.ados_transfer.specs.Folders.{hides}
use Rattle.ados_transfer.specs.Stamps.{is_same_file}
use Rattle.ados_transfer.specs.StandIns.{is_stand_in_of}

-- the stand-in that has this comment is there
abbrev pub has_stand_in : Option Entry → Bytes → Bool
has_stand_in None comment = false
has_stand_in (Some entry) comment = is_stand_in_of entry comment

-- What is there has the stamp of the last comparison. Of a file that was fresh then a later change might have left the same stamp, so that
-- its bytes are compared again. Of a large one there are no bytes to compare: its stand-in has nothing but the stamp, and if that is gone in
-- the Shell the file is looked at again.
abbrev pub has_last_stamp : Files → Record → Seen → Last → Kind → Bool
has_last_stamp files object seen Directory Folder = true
has_last_stamp files object seen (File bytes) (AnyFile is_executable) = not object.is_fresh && is_same_stamp object.stamp seen.stamp
has_last_stamp files object seen (StandIn comment) (AnyFile is_executable) = is_same_stamp object.stamp seen.stamp && has_stand_in (map.get files (key_of object.place)) comment
has_last_stamp files object seen _ _ = false

-- what is in the folder is of the kind that the object was at the last comparison
abbrev pub is_of_kind : Last → Kind → Bool
is_of_kind Directory Folder = true
is_of_kind (File bytes) (AnyFile is_executable) = true
is_of_kind (StandIn comment) (AnyFile is_executable) = true
is_of_kind _ _ = false

-- another file is there than one that had a stamp, whatever their bytes are
abbrev pub is_another : Last → Stamp → Here → Bool
is_another (File bytes) stamp (AFile found own rights) = not (is_same_file stamp own)
is_another _ stamp _ = false

-- another program made the file of a record anew, or wrote to it
abbrev pub is_made_anew : Record → Here → Bool
is_made_anew object here = is_another object.last object.stamp here

abbrev pub has_made_anew : Option Record → Here → Bool
has_made_anew None here = false
has_made_anew (Some object) here = is_made_anew object here

-- by this decision what this machine has comes in
abbrev pub comes_in : Decision → Bool
comes_in Bring = true
comes_in Conflict = true
comes_in other = false

-- what is in the folder is neither a file nor a folder
abbrev pub is_foreign : Kind → Bool
is_foreign Foreign = true
is_foreign _ = false

-- what is there is what was there at the last comparison, or is not shared
abbrev pub is_unchanged : Files → Option Record → Seen → Bool
is_unchanged files None seen = is_foreign seen.kind
is_unchanged files (Some object) seen = bytes_eq (string_bytes object.path) (string_bytes seen.path) && has_last_stamp files object seen object.last seen.kind

-- a row is that of an object with this key, which is there and may have changed
abbrev pub has_changed : {A : Type 0} → Files → BTreeMap (String A) Record → Bytes → String A × Seen → Bool
has_changed files records key row = bytes_eq (string_bytes row.0) key && not (is_unchanged files (get_by_text records (string_bytes row.0)) row.1)

-- the object of a record, with this key, is gone: it is not there, and is not in what could not be read
abbrev pub is_gone : {A : Type 0} → Look → Bytes → String A → Bool
is_gone look key own = bytes_eq (string_bytes own) key && (not (has_key look.seen (string_bytes own)) && not (list_any (hides (string_bytes own)) look.unread.items))
