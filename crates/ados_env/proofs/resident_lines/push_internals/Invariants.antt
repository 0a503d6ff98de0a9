use Rattle.std.proofs.Common.{◌≡◌, ◌++◌, drop}
use Rattle.std.specs.List.{flat_map}
use Rattle.ados_env.specs.Resident.{internal_line}
use Rattle.ados_env.proofs.resident_lines.push_internals.Given as goal

abbrev pub invariant-loop-internal : goal.invariant-loop-internal
invariant-loop-internal l =
    l.output.items ++ flat_map internal_line (drop l.internal-index l.internals)
    ≡ l.initial.output.items ++ flat_map internal_line l.internals
