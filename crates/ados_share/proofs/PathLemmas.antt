-- Paths below a folder, one step after the other.
use Rattle.std.proofs.Common.{◌≡◌, true, subst, sym}
use Rattle.ados_text.specs.Text.{Bytes}
use Rattle.ados_transfer.specs.Paths.{IsBelow, Itself, Step, is_file_name, path_in}

pub below_itself : (folder path : Bytes) → path ≡ folder → IsBelow folder path
below_itself folder path is = subst (IsBelow folder) (sym is) Itself

pub below_step : (folder path name next : Bytes) → IsBelow folder path → is_file_name name ≡ true → next ≡ path_in path name → IsBelow folder next
below_step folder path name next below step is = subst (IsBelow folder) (sym is) (Step path name below step)
