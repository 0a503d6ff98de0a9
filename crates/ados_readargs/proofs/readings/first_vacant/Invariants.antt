use Rattle.std.proofs.Common.{◌≡◌, drop}
use Rattle.ados_readargs.specs.Readings.{first_vacant, first_vacant_from}
use Rattle.ados_readargs.proofs.readings.first_vacant.Given as goal

abbrev pub invariant-loop-place : goal.invariant-loop-place
invariant-loop-place l = first_vacant l.options l.given ≡ first_vacant_from l.place (drop l.place l.options) l.given
