use Rattle.std.proofs.Common.{◌≡◌, ◌+◌, drop}
use Rattle.ados_line.specs.Ticks.{within_bytes}
use Rattle.ados_line.proofs.ticks.count_within.Given as goal

abbrev pub invariant-loop-place : goal.invariant-loop-place
invariant-loop-place l = within_bytes l.size l.letters ≡ l.place + within_bytes l.left (drop l.place l.letters)
