use Rattle.std.proofs.Common.{◌∙◌, ap, not}
use Rattle.std.specs.List.{filter, list_any}
use Rattle.ados_check.specs.Problems.{refuses_return, speaks_of_return}
use Rattle.ados_check.specs.declared.findings.Finding.{Finding}
use Rattle.ados_check.proofs.ReturnLemmas.{is_merged, others_merged, refused_merged}
use Rattle.ados_check.proofs.returns.merge_returns.Goals as goal

pub returns-in-Some-clause-others : goal.returns-in-Some-clause-others
returns-in-Some-clause-others c =
    ap (filter (λ (one : Finding). not (speaks_of_return one.problem)))
    (is_merged _ _ _ _ c.in-Some.line c.as_slice.ensures.value c.refused_line.ensures c.in-Some.is c.keep.ensures)
    ∙ others_merged c.args.found.now.items

pub returns-in-Some-clause-refused : goal.returns-in-Some-clause-refused
returns-in-Some-clause-refused c =
    ap (list_any (λ (one : Finding). refuses_return one.problem))
    (is_merged _ _ _ _ c.in-Some.line c.as_slice.ensures.value c.refused_line.ensures c.in-Some.is c.keep.ensures)
    ∙ refused_merged c.args.found.now.items
