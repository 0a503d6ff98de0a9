-- A list of calls that has grown is not empty.
use Rattle.std.proofs.Common.{◌≡◌, List, [], ◌∷◌, ◌++◌, false, refl}
use Rattle.ados_launcher.specs.declared.calls.Call.{Call}
use Rattle.ados_launcher.specs.Calls.{is_none}

pub called_some : (calls : List Call) (call : Call) → is_none (calls ++ call ∷ []) ≡ false
called_some [] call = refl
called_some (first ∷ calls) call = refl
