use Rattle.std.proofs.Common.{◌≡◌, ◌≤◌, ◌-◌, ◌++◌, length, drop}
use Rattle.std.specs.List.{slice_split}
use Rattle.ados_names.specs.Names.{is_slash}
use Rattle.ados_names.specs.Path.{steps_of}
use Rattle.ados_names.proofs.pieces.steps.Given as goal

abbrev pub invariant-loop-length : goal.invariant-loop-length
invariant-loop-length l = record {
  within : l.from ≤ length l.bytes;
  cut : steps_of (slice_split is_slash (drop l.start l.bytes)) ≡ l.steps.items ++ steps_of (slice_split is_slash (drop l.from l.bytes));
}

abbrev pub decreases-loop-length : goal.decreases-loop-length
decreases-loop-length l = length l.bytes - l.from
