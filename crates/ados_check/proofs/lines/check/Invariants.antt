use Rattle.std.proofs.Common.{ℕ, ◌≡◌, take}
use Rattle.ados_check.specs.Errors.{AreAlwaysSo}
use Rattle.ados_check.specs.LeftOut.{gives_at, is_told}
use Rattle.ados_check.specs.Signs.{signs_at, signs_told}
use Rattle.ados_check.proofs.lines.check.Given as goal

abbrev pub invariant-loop-place : goal.invariant-loop-place
invariant-loop-place l =
    ((number : ℕ) → signs_told number l.found.items ≡ signs_at l.initial.bytes number)
    × AreAlwaysSo l.found.items
    × ((number : ℕ) → is_told number l.found.items ≡ gives_at l.reader.commands.now l.reader.dialect l.reader.aliases.now (take l.place l.lines) number)
