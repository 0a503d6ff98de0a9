use Rattle.std.proofs.Common.{◌≡◌, drop}
use Rattle.ados_ram.specs.Place.{key_of, any_at_or_below}
use Rattle.ados_ram.proofs.places.any_at_or_below.Given as goal

abbrev pub invariant-loop-place : goal.invariant-loop-place
invariant-loop-place l = any_at_or_below (drop l.place-index l.places) (key_of l.names) ≡ any_at_or_below l.places (key_of l.names)
