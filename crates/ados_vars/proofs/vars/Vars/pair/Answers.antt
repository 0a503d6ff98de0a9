use Rattle.std.proofs.Common.{◌∙◌, ap}
use Rattle.ados_vars.specs.Vars.{first_spelling, value_in}
use Rattle.ados_vars.proofs.VarsLemmas.{lookup-is, lookup_key-is}
use Rattle.ados_vars.proofs.vars.Vars.pair.Goals as goal

pub returns-clause-name : goal.returns-clause-name
returns-clause-name c =
    c.get_key_value.ensures.key ∙ lookup_key-is c.self.inside.map.entries c.args.name.now ∙ ap (λ pairs. first_spelling pairs c.args.name.now) c.self.view_is

pub returns-clause-value : goal.returns-clause-value
returns-clause-value c =
    c.get_key_value.ensures.value ∙ lookup-is c.self.inside.map.entries c.args.name.now ∙ ap (λ pairs. value_in pairs c.args.name.now) c.self.view_is
