use Rattle.std.proofs.Common.{◌≡◌, drop}
use Rattle.std.specs.List.{find}
use Rattle.ados_text.specs.Text.{is_past_ascii}
use Rattle.ados_check.proofs.signs.first_past_ascii.Given as goal

abbrev pub invariant-loop-byte : goal.invariant-loop-byte
invariant-loop-byte l = find is_past_ascii l.line ≡ find is_past_ascii (drop l.byte-index l.line)
