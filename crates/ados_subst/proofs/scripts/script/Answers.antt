use Rattle.std.proofs.Common.{rules}
use Rattle.std.specs.Fmt.{decimal}
use Rattle.ados_text.specs.Lines.{lines_of}
use Rattle.ados_subst.proofs.ScriptLemmas.{said}
use Rattle.ados_subst.proofs.scripts.script.Goals as goal

pub returns-clause-said : goal.returns-clause-said
returns-clause-said c = said _ (lines_of c.args.bytes.now) c.args.args.now (decimal c.args.process) (search rules)
