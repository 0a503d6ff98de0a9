use Rattle.std.proofs.Common.{rules}
use Rattle.ados_line.specs.Expansion.{resume_line}
use Rattle.ados_line.proofs.ExpansionLemmas.{resumed}
use Rattle.ados_line.proofs.expansion.resume.Goals as goal

pub returns-clause-made : goal.returns-clause-made
unfolding resume_line
returns-clause-made c = resumed _ c.args.before.now c.args.output.now c.args.after.now (search rules)
