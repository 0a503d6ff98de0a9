use Rattle.std.proofs.Common.{◌≡◌, drop}
use Rattle.ados_resident.specs.Names.{first_with_name}
use Rattle.ados_resident.proofs.lists.entry_in.Given as goal

abbrev pub invariant-loop-entry : goal.invariant-loop-entry
invariant-loop-entry l = first_with_name (λ entry. entry.name) l.name l.entries ≡ first_with_name (λ entry. entry.name) l.name (drop l.entry-index l.entries)
