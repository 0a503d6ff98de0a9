use Rattle.std.proofs.Common.{◌≡◌, ◌++◌, drop}
use Rattle.ados_objects.specs.Names.{matching_places}
use Rattle.ados_objects.proofs.names.matching.Given as goal

abbrev pub invariant-loop-place : goal.invariant-loop-place
invariant-loop-place l = l.found.items ++ matching_places l.pattern.form l.ram (drop l.place-index l.places) ≡ matching_places l.pattern.form l.ram l.places
