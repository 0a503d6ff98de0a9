-- Stand-ins: empty files of the Shell in place of files of this machine that are too large for it.
use Rattle.std.specs.Prelude.{Bool, true, ◌&&◌, ◌||◌, ◌==◌, not, Option, Some, None, codes, length, if◌then◌else◌}
use Rattle.std.specs.Str.{bytes_eq}
use Rattle.ados_text.specs.Text.{Bytes}
use Rattle.ados_ram.specs.declared.entries.Bits.{Bits}
use Rattle.ados_ram.specs.declared.entries.Entry.{Entry}
use Rattle.ados_ram.specs.Entry.{is_directory, bytes_of}
use Rattle.ados_transfer.specs.declared.watch.Watch.{Watch}
use Rattle.ados_transfer.specs.Within.{is_substring}

-- the entry is a file without bytes
abbrev pub is_empty_file : Entry → Bool
is_empty_file entry = not (is_directory entry) && length (bytes_of entry) == 0

-- the entry is an empty file whose comment says that it stands for a file of this machine
abbrev pub is_stand_in : Entry → Bool
is_stand_in entry = is_empty_file entry && is_substring (codes " bytes, on this machine alone (") entry.comment

-- the entry is the stand-in that has this comment
abbrev pub is_stand_in_of : Entry → Bytes → Bool
is_stand_in_of entry comment = is_empty_file entry && bytes_eq entry.comment comment

-- the entry, if it is the Shell's own and not a stand-in
abbrev pub own_entry : Option Entry → Option Entry
own_entry None = None
own_entry (Some entry) = if is_stand_in entry then None else Some entry

-- what was seen of a stand-in, with one more look at it: whether it has bit d, and whether it ever had bit r
abbrev pub next_watch : Watch → Bits → Watch
next_watch watch bits = record watch { had_delete = bits.delete; is_spared = watch.is_spared || bits.read }

-- what was seen of one that is gone: if it became another file (`is_altered`), its large file is spared
abbrev pub last_watch : Watch → Bool → Watch
last_watch watch is_altered = record watch { is_spared = watch.is_spared || is_altered; is_over = true }
