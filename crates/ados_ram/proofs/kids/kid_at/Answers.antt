use Rattle.std.proofs.Common.{ap, sym, ◌∙◌}
use Rattle.ados_ram.specs.Tree.{Kid, rows_found}
use Rattle.ados_ram.proofs.kids.kid_at.Goals as goal

pub returns-in-Ok-clause-rows : goal.returns-in-Ok-clause-rows
returns-in-Ok-clause-rows c = ap (λ (k : Kid). k.1) c.index-kids-at.is ∙ sym (ap rows_found (c.in-Ok.ensures.found c.index-kids-at.result))

pub returns-in-Ok-clause-name : goal.returns-in-Ok-clause-name
returns-in-Ok-clause-name c = ap (λ (k : Kid). k.0) c.index-kids-at.is ∙ c.in-Ok.ensures.name c.index-kids-at.result

pub returns-in-Err-clause-rows : goal.returns-in-Err-clause-rows
returns-in-Err-clause-rows c = sym (ap rows_found c.in-Err.ensures.absent)
