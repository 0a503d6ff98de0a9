use Rattle.std.proofs.Common.{◌≡◌, ◌++◌, drop}
use Rattle.std.specs.List.{flat_map}
use Rattle.ados_env.specs.AssignLines.{further_line}
use Rattle.ados_env.proofs.assign_lines.push_further.Given as goal

abbrev pub invariant-loop-place : goal.invariant-loop-place
invariant-loop-place l =
    l.output.items ++ flat_map (further_line l.ram) (drop l.place-index l.places)
    ≡ l.initial.output.items ++ flat_map (further_line l.ram) l.places
