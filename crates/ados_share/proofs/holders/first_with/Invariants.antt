use Rattle.std.proofs.Common.{◌≡◌, drop, find}
use Rattle.ados_share.specs.Contents.{has_bytes}
use Rattle.ados_share.proofs.holders.first_with.Given as goal

-- the first of those that are left is the first of all
abbrev pub invariant-loop-holder : goal.invariant-loop-holder
invariant-loop-holder l = find (has_bytes l.bytes) (drop l.holder-index l.holders) ≡ find (has_bytes l.bytes) l.holders
