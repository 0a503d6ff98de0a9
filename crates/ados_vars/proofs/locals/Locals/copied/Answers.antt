use Rattle.std.proofs.Common.{◌∙◌, ap}
use Rattle.std.specs.List.{filter}
use Rattle.ados_vars.specs.Vars.{set_all}
use Rattle.ados_vars.specs.Locals.{copied_pairs, is_other}
use Rattle.ados_vars.proofs.CopyLemmas.{copied}
use Rattle.ados_vars.proofs.locals.Locals.copied.Goals as goal

pub returns : goal.returns
returns c =
    c.in_ok-set_others.ensures.set
    ∙ ap (λ ps. set_all ps (filter is_other c.self.inside.vars)) (c.locals.view_is ∙ c.in_ok-locals.ensures)
    ∙ copied c.args.number c.self.inside.vars c.in_ok-set_others.ensures.distinct
    ∙ ap (copied_pairs c.args.number) c.self.view_is
