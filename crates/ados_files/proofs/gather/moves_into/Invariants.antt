use Rattle.std.proofs.Common.{◌≡◌, ◌++◌, drop}
use Rattle.ados_files.specs.Gather.{moves_into}
use Rattle.ados_files.proofs.gather.moves_into.Given as goal

abbrev pub invariant-loop-place : goal.invariant-loop-place
invariant-loop-place l = l.moves.items ++ moves_into l.ram l.to (drop l.place-index l.places) ≡ moves_into l.ram l.to l.places
