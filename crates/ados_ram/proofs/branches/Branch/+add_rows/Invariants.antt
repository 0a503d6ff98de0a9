use Rattle.std.proofs.Common.{◌≡◌, ◌++◌, [], length, drop}
use Rattle.ados_ram.specs.Place.{key_of}
use Rattle.ados_ram.specs.Rows.{inner_rows}
use Rattle.ados_ram.specs.Tree.{flatten, rows_by_root}
use Rattle.ados_ram.proofs.branches.Branch.+add_rows.Given as goal

abbrev pub decreases-add_rows : goal.decreases-add_rows
decreases-add_rows l = length l.self.now.1

abbrev pub invariant-loop-kid : goal.invariant-loop-kid
invariant-loop-kid l = l.rows.items ++ rows_by_root (key_of l.place) (inner_rows l.all [] (flatten (drop l.kid-index l.kid-items))) ≡ l.initial.rows.items ++ rows_by_root (key_of l.place) (inner_rows l.all [] (flatten l.kid-items))
