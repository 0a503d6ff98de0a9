use Rattle.std.proofs.Common.{◌≡◌, take, map}
use Rattle.ados_resident.specs.Residents.{enabled_internal}
use Rattle.ados_resident.proofs.lists.enabled.Given as goal

abbrev pub invariant-loop-command : goal.invariant-loop-command
invariant-loop-command l = l.internals.items ≡ map enabled_internal (take l.command-index l.commands)
