use Rattle.std.proofs.Common.{◌≡◌, drop}
use Rattle.ados_files.specs.Parts.{stands_in}
use Rattle.ados_files.proofs.parts.stands_in.Given as goal

abbrev pub invariant-loop-start : goal.invariant-loop-start
invariant-loop-start l = stands_in l.part (drop l.start l.text) ≡ stands_in l.part l.text
