use Rattle.std.proofs.Common.{◌≡◌, ℕ, List, ◌++◌, append_assoc, refl, arith}
use Rattle.std.specs.Prelude.{Result, Ok, Err}
use Rattle.std.proofs.lemmas.Grind.{common_steps}
use Rattle.ados_find.specs.declared.codes.Codes.{Codes}
use Rattle.ados_objects.specs.Names.{FoundPlaces}
use Rattle.ados_files.specs.Jobs.{prepend_places}
use Rattle.ados_files.proofs.jobs.gathered.Goals as goal

-- places put before those that were put before others
in_front-twice : (a b : List (List (List ℕ))) (more : Result FoundPlaces Codes) → prepend_places a (prepend_places b more) ≡ prepend_places (a ++ b) more
in_front-twice a b (Err codes) = refl
in_front-twice a b (Ok more) = simp append_assoc

pub loop-text-preserved : goal.loop-text-preserved
loop-text-preserved c = grind (arith, common_steps, in_front-twice)
