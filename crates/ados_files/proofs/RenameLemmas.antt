-- An object that was renamed.
use Rattle.std.proofs.Common.{◌≡◌, ℕ, List, [], Option, Some, None, refl}
use Rattle.ados_text.specs.declared.codes.Result2.{Result2}
use Rattle.ados_find.specs.Codes.{went_well}
use Rattle.ados_find.specs.Effects.{codes_effect, unless_refused}
use Rattle.ados_find.specs.Shared.{SharedState, after_rename}
use Rattle.ados_files.specs.Rename.{rename_effect}

pub renamed-is : (shared : SharedState) (from to : List (List ℕ)) (fault : Option Result2) → fault ≡ None
    → record (codes_effect (after_rename shared from to) went_well) { renamed = Some (record { from = from; to = to }); gathered = [] }
    ≡ unless_refused (codes_effect shared) fault (rename_effect shared from to)
renamed-is shared from to fault e = rw e refl
