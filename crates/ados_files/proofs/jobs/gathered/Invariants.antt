use Rattle.std.proofs.Common.{◌≡◌, drop}
use Rattle.ados_files.specs.Jobs.{prepend_places, gathered_places}
use Rattle.ados_files.proofs.jobs.gathered.Given as goal

abbrev pub invariant-loop-text : goal.invariant-loop-text
invariant-loop-text l = prepend_places l.places.items (gathered_places l.shared l.directory (drop l.text-index l.texts)) ≡ gathered_places l.shared l.directory l.texts
