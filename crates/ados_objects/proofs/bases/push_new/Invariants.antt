use Rattle.std.proofs.Common.{◌≡◌, ◌++◌, drop}
use Rattle.ados_objects.specs.Bases.{new_places}
use Rattle.ados_objects.proofs.bases.push_new.Given as goal

abbrev pub invariant-loop-place : goal.invariant-loop-place
invariant-loop-place l =
    l.out.items ++ new_places l.ram l.before (drop l.place-index l.places) ≡ l.initial.out.items ++ new_places l.ram l.before l.places
