use Rattle.std.proofs.Common.{◌≡◌, ◌++◌, ◌-◌, drop}
use Rattle.std.specs.List.{flat_map}
use Rattle.ados_files.specs.Shapes.{directory_lines, group_lines}
use Rattle.ados_files.proofs.shapes.+push_group.Given as goal

abbrev pub decreases-push_group : goal.decreases-push_group
decreases-push_group l = l.depth

abbrev pub invariant-loop-place : goal.invariant-loop-place
invariant-loop-place l =
    l.output.items ++ flat_map (directory_lines (group_lines l.shown.shape.now l.ram (l.depth - 1)) l.ram l.shown.path.now) (drop l.place-index l.places)
    ≡ l.initial.output.items ++ flat_map (directory_lines (group_lines l.shown.shape.now l.ram (l.depth - 1)) l.ram l.shown.path.now) l.places
