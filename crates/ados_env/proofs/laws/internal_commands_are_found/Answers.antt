use Rattle.std.proofs.Common.{◌≡◌, Some, refl}
use Rattle.ados_resident.specs.Commands.{internal_name}
use Rattle.ados_resident.specs.Names.{internal_named}
use Rattle.ados_resident.specs.declared.internal_commands.InternalCommand.{InternalCommand}
use Rattle.ados_resident.specs.declared.internal_commands.InternalCommand.TheVariants as command
use Rattle.ados_env.proofs.laws.internal_commands_are_found.Goals as goal

found : (c : InternalCommand) → internal_named (internal_name c) ≡ Some c
unfolding internal_named
found command.Alias = refl
found command.Ask = refl
found command.Cd = refl
found command.Echo = refl
found command.Else = refl
found command.EndIf = refl
found command.EndSkip = refl
found command.FailAt = refl
found command.Fault = refl
found command.Get = refl
found command.GetEnv = refl
found command.If = refl
found command.Lab = refl
found command.Path = refl
found command.Quit = refl
found command.Resident = refl
found command.Run = refl
found command.Set = refl
found command.SetEnv = refl
found command.Skip = refl
found command.Unalias = refl
found command.Unset = refl
found command.UnsetEnv = refl
found command.Why = refl

pub returns : goal.returns
returns c = found
