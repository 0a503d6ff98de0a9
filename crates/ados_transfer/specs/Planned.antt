-- Files and directories that are to be in the Shell's files when the script begins.
use Rattle.std.specs.Prelude.{Bool, false, ◌&&◌, not, Option, Some, None}
use Rattle.std.specs.Bool.{beq}
use Rattle.std.specs.FinMap as map
use Rattle.std.specs.Str.{bytes_eq}
use Rattle.ados_text.specs.Text.{Bytes}
use Rattle.ados_ram.specs.declared.entries.Entry.{Entry}
use Rattle.ados_ram.specs.Entry.{is_directory, bytes_of}
use Rattle.ados_ram.specs.Files.{Files}
use Rattle.ados_ram.specs.Place.{key_of}
use Rattle.ados_transfer.specs.declared.planned.Content.{Content}
use Rattle.ados_transfer.specs.declared.planned.Content.TheVariants.{Directory, File}
use Rattle.ados_transfer.specs.declared.planned.Planned.{Planned}

-- the entry is a file with these bytes, with bit s or without
abbrev pub holds_file : Entry → Bytes → Bool → Bool
holds_file entry bytes script = not (is_directory entry) && (bytes_eq (bytes_of entry) bytes && beq entry.bits.script script)

-- what is at a place is what was planned
abbrev pub holds_content : Option Entry → Content → Bool
holds_content None content = false
holds_content (Some entry) Directory = is_directory entry
holds_content (Some entry) (File bytes script) = holds_file entry bytes script

-- the files have what was planned for its place
abbrev pub is_as_planned : Files → Planned → Bool
is_as_planned files planned = holds_content (map.get files (key_of planned.place)) planned.content
