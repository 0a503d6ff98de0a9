use Rattle.ados_pattern.specs.Form.{form_of}
use Rattle.ados_pattern.specs.Matches.{Matches}
use Rattle.ados_pattern.specs.Table.{cells_of}
use Rattle.ados_pattern.proofs.RuleLemmas.{table-whole}
use Rattle.ados_pattern.proofs.matching.matches_long.Goals as goal

pub returns : goal.returns
returns c = table-whole (Matches (form_of c.args.part.now)) c.args.text.now (cells_of c.in_ok-table.table) c.in_ok-table.ensures c.at.result c.at.ensures
