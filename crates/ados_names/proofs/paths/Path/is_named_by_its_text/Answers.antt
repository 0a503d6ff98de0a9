use Rattle.std.proofs.Common.{subst}
use Rattle.ados_names.specs.Path.{IsPath}
use Rattle.ados_names.proofs.PathLemmas.{path-text}
use Rattle.ados_names.proofs.paths.Path.is_named_by_its_text.Goals as goal

pub returns : goal.returns
returns c = path-text c.args.self.now (subst IsPath c.self.view_is c.self.invariant)
