use Rattle.ados_files.proofs.CopyStays.{copy-stays}
use Rattle.ados_files.proofs.DeleteStays.{delete-stays}
use Rattle.ados_files.proofs.RenameStays.{rename-row-stays}
use Rattle.ados_files.proofs.laws.others_stay.Goals as goal

pub returns : goal.returns
returns c = record { copy = copy-stays; delete = delete-stays; rename = rename-row-stays }
