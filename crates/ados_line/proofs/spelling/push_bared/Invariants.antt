use Rattle.std.proofs.Common.{◌≡◌, ◌++◌, drop, flat_map}
use Rattle.ados_line.specs.Letters.{starless_text}
use Rattle.ados_line.proofs.spelling.push_bared.Given as goal

abbrev pub invariant-loop-letter : goal.invariant-loop-letter
invariant-loop-letter l = l.initial.text ++ flat_map (starless_text l.mark) l.letters ≡ l.text ++ flat_map (starless_text l.mark) (drop l.letter-index l.letters)
