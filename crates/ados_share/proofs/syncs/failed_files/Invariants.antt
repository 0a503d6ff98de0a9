use Rattle.std.proofs.Common.{◌≡◌, ◌++◌}
use Rattle.ados_share.specs.Account.{failed_files}
use Rattle.ados_share.proofs.syncs.failed_files.Given as goal

-- those that are kept and those among what is left are all
abbrev pub invariant-loop-attempt : goal.invariant-loop-attempt
invariant-loop-attempt l = l.failed.items ++ failed_files l.attempt-iterator.rest.items ≡ failed_files l.fn.attempts.items
