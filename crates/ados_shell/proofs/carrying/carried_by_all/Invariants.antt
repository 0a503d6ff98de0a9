use Rattle.std.proofs.Common.{◌≡◌, drop}
use Rattle.ados_machine.specs.Carrying.{place_after_moves}
use Rattle.ados_shell.proofs.carrying.carried_by_all.Given as goal

abbrev pub invariant-loop-renamed : goal.invariant-loop-renamed
invariant-loop-renamed l = place_after_moves (drop l.renamed-index l.moved) l.carried ≡ place_after_moves l.moved l.place
