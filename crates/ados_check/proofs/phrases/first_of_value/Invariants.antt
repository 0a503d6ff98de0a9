use Rattle.std.proofs.Common.{◌≡◌, drop}
use Rattle.std.specs.List.{find}
use Rattle.ados_check.specs.Phrases.{is_value_byte}
use Rattle.ados_check.proofs.phrases.first_of_value.Given as goal

abbrev pub invariant-loop-byte : goal.invariant-loop-byte
invariant-loop-byte l = find is_value_byte l.value ≡ find is_value_byte (drop l.byte-index l.value)
