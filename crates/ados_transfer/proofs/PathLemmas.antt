-- A path in a folder.
use Rattle.std.proofs.Common.{◌≡◌, true, subst, sym}
use Rattle.ados_text.specs.Text.{Bytes}
use Rattle.ados_transfer.specs.Paths.{IsBelow, Itself, Step, is_file_name, path_in}

pub below_in : (folder name path : Bytes) → is_file_name name ≡ true → path ≡ path_in folder name → IsBelow folder path
below_in folder name path is same = subst (IsBelow folder) (sym same) (Step folder name Itself is)
