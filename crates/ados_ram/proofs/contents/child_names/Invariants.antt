use Rattle.std.proofs.Common.{◌≡◌, ◌++◌, drop}
use Rattle.ados_ram.specs.Place.{key_of}
use Rattle.ados_ram.specs.FileOperations.{child_names}
use Rattle.ados_ram.proofs.contents.child_names.Given as goal

abbrev pub invariant-loop-row : goal.invariant-loop-row
invariant-loop-row l = l.names.items ++ child_names (key_of l.directory) (drop l.row-index l.rows) ≡ child_names (key_of l.directory) l.rows
