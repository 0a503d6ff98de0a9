use Rattle.std.proofs.Common.{◌≡◌, drop}
use Rattle.ados_resident.specs.Commands.{internal_name}
use Rattle.ados_resident.specs.Names.{first_with_name}
use Rattle.ados_resident.proofs.lists.resident_internal.Given as goal

abbrev pub invariant-loop-internal : goal.invariant-loop-internal
invariant-loop-internal l = first_with_name (λ internal. internal_name internal.command) l.name l.internals
    ≡ first_with_name (λ internal. internal_name internal.command) l.name (drop l.internal-index l.internals)
