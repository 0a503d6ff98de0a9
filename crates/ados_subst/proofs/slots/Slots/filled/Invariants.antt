use Rattle.std.proofs.Common.{◌≡◌, ◌++◌, drop}
use Rattle.ados_subst.specs.Slots.{slots_of}
use Rattle.ados_subst.proofs.slots.Slots.filled.Given as goal

abbrev pub invariant-loop-place : goal.invariant-loop-place
invariant-loop-place l =
    slots_of l.options l.args ≡ l.items.items ++ slots_of (drop l.place l.options) (drop l.place l.args)
