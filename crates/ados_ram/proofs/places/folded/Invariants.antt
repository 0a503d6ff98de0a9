use Rattle.std.proofs.Common.{◌≡◌, take}
use Rattle.ados_text.specs.Text.{folded_text}
use Rattle.ados_ram.proofs.places.folded.Given as goal

abbrev pub invariant-loop-byte : goal.invariant-loop-byte
invariant-loop-byte l = l.text ≡ folded_text (take l.byte-index l.bytes)
