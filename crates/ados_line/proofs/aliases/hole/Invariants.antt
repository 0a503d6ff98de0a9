use Rattle.std.proofs.Common.{◌≡◌, drop}
use Rattle.ados_line.specs.Alias.{hole_from}
use Rattle.ados_line.proofs.aliases.hole.Given as goal

abbrev pub invariant-loop-place : goal.invariant-loop-place
invariant-loop-place l = hole_from 0 l.text ≡ hole_from l.place (drop l.place l.text)
