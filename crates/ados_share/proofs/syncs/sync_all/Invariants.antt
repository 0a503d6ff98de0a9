use Rattle.std.proofs.Common.{◌≡◌, ◌++◌}
use Rattle.ados_share.specs.Account.{files_of}
use Rattle.ados_share.proofs.syncs.sync_all.Given as goal

-- those that were tried and those that are left are all
abbrev pub invariant-loop-file : goal.invariant-loop-file
invariant-loop-file g l = files_of l.attempts.items ++ l.file-iterator.rest.items ≡ l.fn.files.items
