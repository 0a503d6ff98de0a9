use Rattle.std.proofs.Common.{[], string_bytes}
use Rattle.ados_transfer.specs.Paths.{IsBelow}
use Rattle.ados_share.proofs.departure.way.Given as goal

abbrev pub invariant-loop-step : goal.invariant-loop-step
invariant-loop-step g l = IsBelow [] (string_bytes l.folder)
