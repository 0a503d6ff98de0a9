-- Which typed lines are taken in.
use Rattle.std.proofs.Common.{length, refl}
use Rattle.std.proofs.lemmas.Bool.{le-leb, le-ltb, lt-leb}
use Rattle.ados_line.specs.Cut.{line_limit}
use Rattle.ados_machine.specs.Typing.{LinesAreTakenIn, FullQueuesTakeNoLine}

pub lines-taken-in : LinesAreTakenIn
lines-taken-in w line runs not_ended few short = rw (runs, not_ended, lt-leb 256 (length w.queue) few, le-ltb line_limit (length line) short) refl

pub full-take-none : FullQueuesTakeNoLine
full-take-none w line runs not_ended full = rw (runs, not_ended, le-leb 256 (length w.queue) full) refl
