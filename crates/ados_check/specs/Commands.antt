-- Which command of the Shell a word of a script is, as the Shell finds it while no file or entry has taken its place.
use Rattle.std.specs.Prelude.{Option, Some, None, length, take, drop, nat_lt, codes, if◌then◌else◌}
use Rattle.ados_text.specs.Text.{Text, is_same}
use Rattle.ados_resident.specs.declared.disk_commands.DiskCommand.{DiskCommand}
use Rattle.ados_resident.specs.declared.commands.Builtin.{Builtin}
use Rattle.ados_resident.specs.declared.dialects.Dialect.{Dialect}
use Rattle.ados_resident.specs.declared.internal_commands.InternalCommand.{InternalCommand}
use Rattle.ados_resident.specs.Commands.{disk_builtin, internal_builtin}
use Rattle.ados_resident.specs.Names.{disk_named, internal_named}
use Rattle.ados_check.specs.declared.commands.Meaning.{Meaning}
use Rattle.ados_check.specs.declared.commands.Meaning.TheVariants as meaning

-- what follows the text `start` in a word that begins with it, ignoring case
abbrev pub after : Text → Text → Option Text
after word start =
    if nat_lt (length word) (length start) then None else (if is_same (take (length start) word) start then Some (drop (length start) word) else None)

-- a text that was found, or otherwise another text
abbrev pub or_text : Option Text → Text → Text
or_text (Some found) other = found
or_text None other = other

-- the name that a word has in C:, without a path that leads there, as the Shell has its devices at the start
abbrev pub name_in_c : Text → Text
name_in_c word = or_text (after word (codes "C:")) (or_text (after word (codes "SYS:C/")) (or_text (after word (codes "RAM:C/")) (or_text (after word (codes ":C/")) word)))

-- what the name of an internal command stands for, given which of the Shell's own commands it is; none: it is Run
abbrev pub internal_meaning : Option Builtin → Meaning
internal_meaning (Some command) = meaning.Builtin command
internal_meaning None = meaning.Run

-- what a name in C: stands for, given the disk command that has it
abbrev pub disk_meaning : Option DiskCommand → Meaning
disk_meaning (Some command) = meaning.Builtin (disk_builtin command)
disk_meaning None = meaning.Other

-- what a word stands for in a dialect, given the internal command that has it as its name; without one it may name a disk command
abbrev pub meaning_found : Dialect → Text → Option InternalCommand → Meaning
meaning_found dialect word (Some command) = internal_meaning (internal_builtin command)
meaning_found dialect word None = disk_meaning (disk_named dialect (name_in_c word))

-- what a word stands for in a dialect: an internal command by its name alone, or a disk command also by a path
abbrev pub meaning_of : Dialect → Text → Meaning
meaning_of dialect word = meaning_found dialect word (internal_named word)
