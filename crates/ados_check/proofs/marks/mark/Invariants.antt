use Rattle.std.proofs.Common.{◌≡◌, map}
use Rattle.ados_check.specs.Marks.{marked}
use Rattle.ados_check.proofs.MarkLemmas.{marked_from}
use Rattle.ados_check.proofs.marks.mark.Given as goal

abbrev pub invariant-loop-byte : goal.invariant-loop-byte
invariant-loop-byte l = marked_from l.byte-index l.script ≡ map marked l.initial.script
