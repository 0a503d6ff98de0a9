use Rattle.std.proofs.Common.{◌≡◌, ◌++◌, drop}
use Rattle.std.specs.List.{flat_map}
use Rattle.ados_env.specs.Resident.{entry_line}
use Rattle.ados_env.proofs.resident_lines.push_entries.Given as goal

abbrev pub invariant-loop-entry : goal.invariant-loop-entry
invariant-loop-entry l =
    l.output.items ++ flat_map (entry_line l.system l.uses) (drop l.entry-index l.entries)
    ≡ l.initial.output.items ++ flat_map (entry_line l.system l.uses) l.entries
