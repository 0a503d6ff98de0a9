use Rattle.std.proofs.Common.{◌∙◌, ℕ, List, ap}
use Rattle.std.specs.FinMap as map
use Rattle.ados_ram.specs.Place.{key_of}
use Rattle.ados_ram.specs.Files.{Files}
use Rattle.ados_ram.specs.FileOperations.{child_names}
use Rattle.ados_ram.proofs.WalkLemmas.{names-within}
use Rattle.ados_ram.proofs.files.Ram.list.Goals as goal

pub returns-in_ok-child_names-in-None-clause-ok : goal.returns-in_ok-child_names-in-None-clause-ok
returns-in_ok-child_names-in-None-clause-ok c =
    let key = key_of c.args.place.now in
    c.in_ok-child_names-in-None.ensures
    ∙ ap (λ (k : List (List ℕ)). child_names (key_of k) c.deref.result.now) c.names-in-None.ensures ∙ ap (child_names key) (c.deref.ensures.value ∙ c.in_ok-rows-in-None.ensures)
    ∙ names-within key (map.entries c.self.inside.table) ∙ ap (λ (m : Files). child_names key (map.entries m)) c.self.view_is
