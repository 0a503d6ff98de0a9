use Rattle.std.proofs.Common.{◌∙◌, ap, length}
use Rattle.std.specs.List.{filter}
use Rattle.ados_world.specs.Shells.{runs_from}
use Rattle.ados_world.proofs.UseLemmas.{uses_counted}
use Rattle.ados_world.proofs.worlds.World.uses.Goals as goal

pub returns : goal.returns
returns c =
    rw (← c.self.view_is)
    (c.count_uses.ensures ∙ ap (λ shells. length (filter (λ place. runs_from place c.args.name.now) shells)) c.places.ensures
    ∙ uses_counted c.self.inside.shells c.args.name.now)
