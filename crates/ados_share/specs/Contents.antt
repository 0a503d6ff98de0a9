-- Files that are found by their bytes.
use Rattle.std.specs.Prelude.{Bool, false, Option, None, Some, if◌then◌else◌}
use Rattle.std.specs.Str.{bytes_eq}
use Rattle.ados_text.specs.Text.{Bytes}
use Rattle.ados_share.specs.declared.holders.Holder.{Holder}
use Rattle.ados_transfer.specs.declared.records.Record.{Record}
use Rattle.ados_transfer.specs.declared.records.Last.{Last}
use Rattle.ados_transfer.specs.declared.records.Last.TheVariants.{Directory, File, StandIn}

-- a file of the Shell has these bytes
abbrev pub has_bytes : Bytes → Holder → Bool
has_bytes bytes holder = bytes_eq holder.bytes.now bytes

-- an object was a file of these bytes at the last comparison
abbrev pub is_file_of : Last → Bytes → Bool
is_file_of Directory bytes = false
is_file_of (File last) bytes = bytes_eq last bytes
is_file_of (StandIn comment) bytes = false

-- the record, if it is that of a file of these bytes
abbrev pub if_file_of : Bytes → Option Record → Option Record
if_file_of bytes None = None
if_file_of bytes (Some object) = if is_file_of object.last bytes then Some object else None
