use Rattle.std.proofs.Common.{◌∙◌, leb, rules}
use Rattle.std.proofs.lemmas.List.Sorted.{IsPartitionPoint-from_clause, IsPartitionedBy-leb}
use Rattle.ados_script.specs.declared.labels.Label.{Label}
use Rattle.ados_script.proofs.ListLemmas.{first_above, lent}
use Rattle.ados_script.proofs.labels.first_label_after.Goals as goal

pub returns : goal.returns
returns c =
    let parted = IsPartitionedBy-leb (λ (label : Label). label.line) _ c.args.i c.requires in
    let point = IsPartitionPoint-from_clause (λ (label : Label). leb label.line c.args.i) _ _ c.partition_point.ensures.partitioned parted (λ a r q k. search rules) in
    lent _ _ _ c.get.ensures.lookup ∙ first_above (λ (label : Label). label.line) _ c.args.i _ point
