use Rattle.std.proofs.Common.{◌≡◌, drop}
use Rattle.ados_transfer.specs.Within.{is_substring}
use Rattle.ados_transfer.proofs.within.is_substring.Given as goal

abbrev pub invariant-loop-from : goal.invariant-loop-from
invariant-loop-from l = is_substring l.bytes l.all ≡ is_substring l.bytes (drop l.from l.all)
