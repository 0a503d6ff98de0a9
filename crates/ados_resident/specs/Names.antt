-- Commands by their names.
use Rattle.std.specs.Prelude.{List, [], ◌∷◌, Option, Some, None, if◌then◌else◌}
use Rattle.ados_text.specs.Text.{Text, is_same}
use Rattle.ados_resident.specs.declared.disk_commands.DiskCommand.{DiskCommand}
use Rattle.ados_resident.specs.declared.internal_commands.InternalCommand.{InternalCommand}
use Rattle.ados_resident.specs.declared.internal_commands.TheConstants.InternalCommand.{ALL}
use Rattle.ados_resident.specs.declared.dialects.Dialect.{Dialect}
use Rattle.ados_resident.specs.Commands.{disk_commands, disk_name, internal_name}

-- the first of these with this name, ignoring case
abbrev pub first_with_name : {C : Type 0} → (C → Text) → Text → List C → Option C
first_with_name name_of name [] = None
first_with_name name_of name (command ∷ commands) =
    if is_same name (name_of command) then Some command else first_with_name name_of name commands

-- the internal command with a name, ignoring case
unfoldable pub internal_named : Text → Option InternalCommand
internal_named name = first_with_name internal_name name ALL

-- the disk command of a dialect with a name, ignoring case
unfoldable pub disk_named : Dialect → Text → Option DiskCommand
disk_named dialect name = first_with_name disk_name name (disk_commands dialect)
