use Rattle.std.proofs.Common.{◌≡◌, drop}
use Rattle.ados_resident.specs.Commands.{internal_name}
use Rattle.ados_resident.specs.Names.{first_with_name}
use Rattle.ados_resident.proofs.names.first_internal.Given as goal

abbrev pub invariant-loop-command : goal.invariant-loop-command
invariant-loop-command l = first_with_name internal_name l.word l.commands ≡ first_with_name internal_name l.word (drop l.command-index l.commands)
