use Rattle.std.proofs.Common.{◌≡◌, ◌++◌, drop}
use Rattle.ados_ram.specs.Place.{key_of}
use Rattle.ados_ram.specs.Contents.{children}
use Rattle.ados_ram.proofs.contents.children.Given as goal

abbrev pub invariant-loop-row : goal.invariant-loop-row
invariant-loop-row l = l.places.items ++ children (key_of l.directory) (drop l.row-index l.rows) ≡ children (key_of l.directory) l.rows
