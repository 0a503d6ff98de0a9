use Rattle.std.proofs.Common.{◌≡◌, ◌++◌, drop}
use Rattle.ados_line.specs.Letters.{plain_letters}
use Rattle.ados_line.proofs.letters.push_singly.Given as goal

abbrev pub invariant-loop-byte : goal.invariant-loop-byte
invariant-loop-byte l = l.initial.letters.items ++ plain_letters l.bytes ≡ l.letters.items ++ plain_letters (drop l.byte-index l.bytes)
