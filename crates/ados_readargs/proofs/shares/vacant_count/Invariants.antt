use Rattle.std.proofs.Common.{◌≡◌, ◌+◌, ◌≤◌, drop}
use Rattle.ados_readargs.specs.Shares.{vacant_count}
use Rattle.ados_readargs.proofs.shares.vacant_count.Given as goal

abbrev pub invariant-loop-place : goal.invariant-loop-place
invariant-loop-place l = record {
  so_far : vacant_count l.needed l.from (drop l.from l.options) l.given ≡ l.count + vacant_count l.needed l.place (drop l.place l.options) l.given;
  few : l.count ≤ l.place;
}
