use Rattle.std.proofs.Common.{◌≡◌, drop}
use Rattle.ados_readargs.specs.Checks.{any_option, is_broken_by}
use Rattle.ados_readargs.proofs.checks.Demand.is_broken.Given as goal

abbrev pub invariant-loop-place : goal.invariant-loop-place
invariant-loop-place l = any_option (is_broken_by l.self) l.options l.args ≡ any_option (is_broken_by l.self) (drop l.place l.options) (drop l.place l.args)
