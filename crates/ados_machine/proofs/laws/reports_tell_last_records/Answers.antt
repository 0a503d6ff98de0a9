use Rattle.ados_machine.proofs.ReportLemmas.{reports-by}
use Rattle.ados_machine.proofs.laws.reports_tell_last_records.Goals as goal

pub returns : goal.returns
returns c = reports-by
