use Rattle.std.proofs.Common.{◌≡◌, drop}
use Rattle.std.specs.List.{list_any}
use Rattle.ados_share.specs.Backups.{counts_for}
use Rattle.ados_share.proofs.notes.is_noted.Given as goal

-- one of those that are left counts if one of all does
abbrev pub invariant-loop-other : goal.invariant-loop-other
invariant-loop-other l = list_any (counts_for l.backup) (drop l.other-index l.noted) ≡ list_any (counts_for l.backup) l.noted
