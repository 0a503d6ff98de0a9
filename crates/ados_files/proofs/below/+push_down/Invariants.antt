use Rattle.std.proofs.Common.{◌≡◌, ◌++◌, ◌-◌, drop}
use Rattle.std.specs.List.{flat_map}
use Rattle.ados_files.specs.Below.{objects_down}
use Rattle.ados_files.proofs.below.+push_down.Given as goal

abbrev pub decreases-push_down : goal.decreases-push_down
decreases-push_down l = l.levels

abbrev pub invariant-loop-object : goal.invariant-loop-object
invariant-loop-object l =
    l.places.items ++ flat_map (objects_down (l.levels - 1) l.ram) (drop l.object-index l.object-items)
    ≡ l.initial.places.items ++ flat_map (objects_down (l.levels - 1) l.ram) l.object-items
