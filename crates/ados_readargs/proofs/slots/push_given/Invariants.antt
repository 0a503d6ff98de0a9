use Rattle.std.proofs.Common.{◌≡◌, ◌++◌, ◌≤◌, length, map, drop}
use Rattle.ados_items.specs.Items.{value_of}
use Rattle.ados_readargs.specs.Readings.{given_items}
use Rattle.ados_readargs.proofs.slots.push_given.Given as goal

abbrev pub invariant-loop-reading : goal.invariant-loop-reading
invariant-loop-reading l = record {
  so_far : l.texts ++ map (value_of l.line) (given_items l.place (drop l.reading-index l.given)) ≡ l.initial.texts ++ map (value_of l.line) (given_items l.place l.given);
  grown : length l.initial.texts ≤ length l.texts;
}
