use Rattle.std.proofs.Common.{◌∙◌, sym, ap, None}
use Rattle.std.specs.Option.{option_copied}
use Rattle.ados_ram.specs.Place.{key_of}
use Rattle.ados_ram.specs.Tree.{branch_rows}
use Rattle.ados_ram.proofs.TreeLemmas.{find-here}
use Rattle.ados_ram.proofs.branches.Branch.find.Goals as goal

pub returns-in-None : goal.returns-in-None
returns-in-None c = find-here (key_of c.args.names.now) c.args.self.now.1 (branch_rows None) (sym (ap (λ o. branch_rows (option_copied o)) c.in-None.is) ∙ c.at.ensures)

pub returns-in-Some : goal.returns-in-Some
returns-in-Some c = sym c.entry.ensures ∙ find-here (key_of c.args.names.now) c.args.self.now.1 c.in-Some.branch.now.1 (sym (ap (λ o. branch_rows (option_copied o)) c.in-Some.is) ∙ c.at.ensures)
