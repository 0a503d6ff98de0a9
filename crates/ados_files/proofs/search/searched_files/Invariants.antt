use Rattle.std.proofs.Common.{◌≡◌, ◌++◌, drop}
use Rattle.ados_files.specs.Search.{searched_files}
use Rattle.ados_files.proofs.search.searched_files.Given as goal

abbrev pub invariant-loop-place : goal.invariant-loop-place
invariant-loop-place l = l.files.items ++ searched_files l.all l.ram (drop l.place-index l.places) ≡ searched_files l.all l.ram l.places
