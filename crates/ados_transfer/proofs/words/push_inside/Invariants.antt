use Rattle.std.proofs.Common.{◌≡◌, ◌++◌, drop}
use Rattle.ados_transfer.specs.Words.{quoted_body}
use Rattle.ados_transfer.proofs.words.push_inside.Given as goal

abbrev pub invariant-loop-byte : goal.invariant-loop-byte
invariant-loop-byte l = l.initial.line ++ quoted_body l.text ≡ l.line ++ quoted_body (drop l.byte-index l.text)
