use Rattle.std.proofs.Common.{◌≡◌, drop}
use Rattle.ados_resident.specs.Commands.{disk_name}
use Rattle.ados_resident.specs.Names.{first_with_name}
use Rattle.ados_resident.proofs.names.first_disk.Given as goal

abbrev pub invariant-loop-command : goal.invariant-loop-command
invariant-loop-command l = first_with_name disk_name l.name l.commands ≡ first_with_name disk_name l.name (drop l.command-index l.commands)
