use Rattle.std.proofs.Common.{◌≡◌}
use Rattle.std.specs.List.{filter}
use Rattle.ados_vars.specs.Vars.{set_all}
use Rattle.ados_vars.specs.Locals.{is_other}
use Rattle.ados_vars.proofs.locals.set_others.Given as goal

abbrev pub invariant-loop-name : goal.invariant-loop-name
invariant-loop-name l = set_all l.vars (filter is_other l.name-iterator) ≡ set_all l.initial.vars (filter is_other l.others)
