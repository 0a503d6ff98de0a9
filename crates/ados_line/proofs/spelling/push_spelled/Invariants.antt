use Rattle.std.proofs.Common.{◌≡◌, ◌++◌, drop, flat_map}
use Rattle.ados_line.specs.Letters.{letter_text}
use Rattle.ados_line.proofs.spelling.push_spelled.Given as goal

abbrev pub invariant-loop-letter : goal.invariant-loop-letter
invariant-loop-letter l = l.initial.text ++ flat_map letter_text l.letters ≡ l.text ++ flat_map letter_text (drop l.letter-index l.letters)
