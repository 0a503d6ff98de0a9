use Rattle.ados_vars.proofs.LocalsLemmas.{first-pairs}
use Rattle.ados_vars.proofs.locals.Locals.first.Goals as goal

pub returns : goal.returns
returns c =
    first-pairs c.args.number _ _ _ _ _ _ _ _ _ _ c.new-vars.ensures c.in_ok-name.ensures c.in_ok-of_number.ensures c.in_ok-set.ensures.ok
    c.in_ok-name-2.ensures c.new.ensures c.in_ok-set-2.ensures.ok c.in_ok-name-3.ensures c.new-2.ensures c.in_ok-set-3.ensures.ok
