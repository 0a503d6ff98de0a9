use Rattle.std.proofs.Common.{◌≡◌, ◌++◌, drop, map}
use Rattle.ados_share.specs.Backups.{moved_from}
use Rattle.ados_share.proofs.backups.Backups.moved_from.Given as goal

-- where those went that were looked at, and those that are left, is where all went
abbrev pub invariant-loop-backup : goal.invariant-loop-backup
invariant-loop-backup l = map (λ one. one.now) l.all.items ++ moved_from l.path l.bytes (drop l.backup-index l.backup-items) ≡ moved_from l.path l.bytes l.self.deleted.items
