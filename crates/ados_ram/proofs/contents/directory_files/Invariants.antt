use Rattle.std.proofs.Common.{◌≡◌, ◌++◌, drop}
use Rattle.ados_ram.specs.Place.{key_of}
use Rattle.ados_ram.specs.Contents.{directory_files}
use Rattle.ados_ram.proofs.contents.directory_files.Given as goal

abbrev pub invariant-loop-row : goal.invariant-loop-row
invariant-loop-row l = l.places.items ++ directory_files l.all (key_of l.directory) (drop l.row-index l.rows) ≡ directory_files l.all (key_of l.directory) l.rows
