use Rattle.std.proofs.Common.{◌∙◌, sym}
use Rattle.ados_find.proofs.SearchLemmas.{found-before, found-after}
use Rattle.ados_find.proofs.shared.Shared.seek.Goals as goal

pub returns-in-Some-clause-found : goal.returns-in-Some-clause-found
returns-in-Some-clause-found c =
    sym (found-before c.args.self.now c.args.directory.now c.args.path.now c.args.word.now c.in-Some.found c.requires.plain
    (sym c.in_ok-found.ensures ∙ c.in-Some.is))

pub returns-in_ok-find_in_c-in-None-clause-found : goal.returns-in_ok-find_in_c-in-None-clause-found
returns-in_ok-find_in_c-in-None-clause-found c =
    c.in_ok-find_in_c-in-None.ensures
    ∙ sym (found-after c.args.self.now c.args.directory.now c.args.path.now c.args.word.now c.requires.plain
    (sym c.in_ok-found.ensures ∙ c.in-None.is))
