-- What the commands read of the shells that run.
use Rattle.std.specs.Prelude.{Bool, true, false}
use Rattle.ados_resident.specs.declared.commands.EnvCommand.{EnvCommand}
use Rattle.ados_resident.specs.declared.dialects.Dialect.{Dialect}
use Rattle.ados_resident.specs.declared.dialects.Dialect.TheVariants.{Core, Full}
use Rattle.ados_resident.specs.declared.commands.EnvCommand.TheVariants.{Break, Eval, Resident, SetEnv, Status, UnsetEnv}

-- the dialect is Full
abbrev pub is_full : Dialect → Bool
is_full Core = false
is_full Full = true

-- a command reads which files are in use: those that change files do (Eval in Full, by TO), and Resident, which reads one
abbrev pub reads_in_use : Dialect → EnvCommand → Bool
reads_in_use dialect Resident = true
reads_in_use dialect SetEnv = true
reads_in_use dialect UnsetEnv = true
reads_in_use dialect Eval = is_full dialect
reads_in_use dialect command = false

-- a command reads the shells that run: Status and Break read their names, and Resident what they run from
abbrev pub reads_shells : EnvCommand → Bool
reads_shells Break = true
reads_shells Resident = true
reads_shells Status = true
reads_shells command = false
