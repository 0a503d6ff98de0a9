use Rattle.std.proofs.Common.{◌≡◌, true, IfSome}
use Rattle.ados_share.specs.Contents.{is_file_of}
use Rattle.ados_share.proofs.mirror.Mirror.original_of.Given as goal

-- what was found has the bytes
abbrev pub invariant-loop-key : goal.invariant-loop-key
invariant-loop-key l = IfSome l.original (λ found. is_file_of found.now.last l.bytes ≡ true)
