use Rattle.std.proofs.Common.{◌≡◌, drop}
use Rattle.std.specs.List.{list_any}
use Rattle.ados_transfer.specs.Within.{is_substring}
use Rattle.ados_share.specs.Account.{contents_of}
use Rattle.ados_share.proofs.account.is_in_any.Given as goal

abbrev pub invariant-loop-file : goal.invariant-loop-file
invariant-loop-file l = list_any (is_substring l.bytes) (contents_of (drop l.file-index l.files)) ≡ list_any (is_substring l.bytes) (contents_of l.files)
