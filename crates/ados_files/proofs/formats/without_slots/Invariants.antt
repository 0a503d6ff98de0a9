use Rattle.std.proofs.Common.{◌≡◌, ◌≤◌, ◌++◌, drop}
use Rattle.ados_files.specs.Formats.{slot_count, without_slots}
use Rattle.ados_files.proofs.formats.without_slots.Given as goal

abbrev pub invariant-loop-part : goal.invariant-loop-part
invariant-loop-part l =
    (l.out.items ++ without_slots l.count l.number (drop l.part-index l.parts) ≡ without_slots (slot_count l.parts) 0 l.parts)
    × (l.number ≤ l.part-index)
