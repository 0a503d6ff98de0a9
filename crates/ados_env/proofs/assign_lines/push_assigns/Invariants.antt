use Rattle.std.proofs.Common.{◌≡◌, ◌++◌, drop}
use Rattle.std.specs.List.{flat_map}
use Rattle.ados_env.specs.AssignLines.{assign_lines}
use Rattle.ados_env.proofs.assign_lines.push_assigns.Given as goal

abbrev pub invariant-loop-assign : goal.invariant-loop-assign
invariant-loop-assign l =
    l.output.items ++ flat_map (assign_lines l.ram) (drop l.assign-index l.assigns)
    ≡ l.initial.output.items ++ flat_map (assign_lines l.ram) l.assigns
