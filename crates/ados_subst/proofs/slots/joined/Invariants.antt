use Rattle.std.proofs.Common.{◌≡◌, ◌++◌, drop}
use Rattle.std.specs.List.{join_with_byte}
use Rattle.ados_subst.proofs.SlotLemmas.{further}
use Rattle.ados_subst.proofs.slots.joined.Given as goal

abbrev pub invariant-loop-place : goal.invariant-loop-place
invariant-loop-place l = join_with_byte 32 l.texts ≡ l.all ++ further l.place (drop l.place l.texts)
