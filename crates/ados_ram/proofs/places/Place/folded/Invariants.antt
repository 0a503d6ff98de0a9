use Rattle.std.proofs.Common.{◌≡◌, take}
use Rattle.ados_ram.specs.Place.{key_of}
use Rattle.ados_ram.proofs.places.Place.folded.Given as goal

abbrev pub invariant-loop-name : goal.invariant-loop-name
invariant-loop-name l = l.names.items ≡ key_of (take l.name-index l.name-items)
