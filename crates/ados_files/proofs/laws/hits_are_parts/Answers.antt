use Rattle.ados_files.proofs.HitLaws.{pattern-hits, text-hits}
use Rattle.ados_files.proofs.laws.hits_are_parts.Goals as goal

pub returns-clause-text : goal.returns-clause-text
returns-clause-text c = text-hits

pub returns-clause-pattern : goal.returns-clause-pattern
returns-clause-pattern c = pattern-hits
