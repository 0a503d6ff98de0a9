use Rattle.std.proofs.Common.{rules, Ok}
use Rattle.ados_line.proofs.CutPieces.{of_pieces}
use Rattle.ados_line.proofs.lines.cut_text.Goals as goal

pub returns-clause-pieces : goal.returns-clause-pieces
returns-clause-pieces c = of_pieces (Ok c.into_expanded.result) c.args.line.now (search rules)
