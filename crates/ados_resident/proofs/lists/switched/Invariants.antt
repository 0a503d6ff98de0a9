use Rattle.std.proofs.Common.{◌≡◌, take, map}
use Rattle.ados_resident.specs.Residents.{switched_internal}
use Rattle.ados_resident.proofs.lists.switched.Given as goal

abbrev pub invariant-loop-internal : goal.invariant-loop-internal
invariant-loop-internal l = l.new.items ≡ map (switched_internal l.is_disabled l.name) (take l.internal-index l.internals)
