-- What could not be written.
use Rattle.std.proofs.Common.{◌≡◌, true, Option, Some, None, refl}
use Rattle.std.specs.Option.{is_some}
use Rattle.ados_text.specs.Text.{Bytes}
use Rattle.ados_share.specs.Account.{first_path}

-- once a path is noted there is one
pub first_is_some : (old : Option Bytes) (path : Bytes) → is_some (first_path old path) ≡ true
first_is_some None path = refl
first_is_some (Some old) path = refl
