use Rattle.std.proofs.Common.{◌≡◌, false, is_some, map}
use Rattle.std.proofs.Math.ListN.{replicate}
use Rattle.ados_launcher.proofs.programs.Programs.new.Given as goal

abbrev pub invariant-loop : goal.invariant-loop
invariant-loop g l = map is_some l.places.items ≡ replicate l.counter false
