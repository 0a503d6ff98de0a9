use Rattle.std.proofs.Common.{◌≡◌, drop}
use Rattle.ados_files.specs.Gather.{gather_each, gathered_of}
use Rattle.ados_files.proofs.gather.gather_each.Given as goal

abbrev pub invariant-loop-object : goal.invariant-loop-object
invariant-loop-object l =
    gather_each l.busy (gathered_of l.shared l.gathering) (drop l.object-index l.moves)
    ≡ gather_each l.busy (gathered_of l.shared l.initial.gathering) l.moves
