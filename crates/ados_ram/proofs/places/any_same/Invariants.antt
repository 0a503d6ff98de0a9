use Rattle.std.proofs.Common.{◌≡◌, drop}
use Rattle.ados_ram.specs.Place.{key_of, any_same}
use Rattle.ados_ram.proofs.places.any_same.Given as goal

abbrev pub invariant-loop-place : goal.invariant-loop-place
invariant-loop-place l = any_same (drop l.place-index l.places) (key_of l.names) ≡ any_same l.places (key_of l.names)
