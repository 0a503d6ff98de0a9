-- What the commands read of the shells that run.
use Rattle.std.specs.Prelude.{Bool, true, false}
use Rattle.ados_resident.specs.declared.commands.FlowCommand.{FlowCommand}
use Rattle.ados_resident.specs.declared.commands.FlowCommand.TheVariants.{Execute}

-- a command needs the list of what is in use: Execute does, since it refuses a script that is an open output (202)
abbrev pub reads_in_use : FlowCommand → Bool
reads_in_use Execute = true
reads_in_use command = false
