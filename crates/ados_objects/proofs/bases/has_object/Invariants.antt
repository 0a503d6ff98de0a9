use Rattle.std.proofs.Common.{◌≡◌, drop}
use Rattle.ados_objects.specs.Bases.{has_object}
use Rattle.ados_objects.proofs.bases.has_object.Given as goal

abbrev pub invariant-loop-base : goal.invariant-loop-base
invariant-loop-base l = has_object l.ram (drop l.base-index l.bases) l.name ≡ has_object l.ram l.bases l.name
