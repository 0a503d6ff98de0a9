use Rattle.std.proofs.Common.{◌≡◌, drop}
use Rattle.ados_files.specs.Hits.{hits_of, search_files}
use Rattle.ados_files.proofs.hits.search_files.Given as goal

abbrev pub invariant-loop-place : goal.invariant-loop-place
invariant-loop-place l =
    search_files l.searching l.view.busy l.shared.files (hits_of l.hits) (drop l.place-index l.places)
    ≡ search_files l.searching l.view.busy l.shared.files (hits_of l.initial.hits) l.places
