use Rattle.std.proofs.Common.{◌≡◌, ◌++◌, drop, false}
use Rattle.ados_line.specs.Letters.{starred_letters}
use Rattle.ados_line.proofs.letters.push_paired.Given as goal

abbrev pub invariant-loop-byte : goal.invariant-loop-byte
invariant-loop-byte l = l.initial.letters.items ++ starred_letters false l.bytes ≡ l.letters.items ++ starred_letters l.starred (drop l.byte-index l.bytes)
