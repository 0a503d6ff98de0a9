use Rattle.std.proofs.Common.{◌≡◌, ◌++◌, drop, map}
use Rattle.ados_line.specs.Expansion.{newline_to_space}
use Rattle.ados_line.proofs.expansion.push_spaced.Given as goal

abbrev pub invariant-loop-byte : goal.invariant-loop-byte
invariant-loop-byte l = l.initial.text ++ map newline_to_space l.bytes ≡ l.text ++ map newline_to_space (drop l.byte-index l.bytes)
