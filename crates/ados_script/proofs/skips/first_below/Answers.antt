use Rattle.std.proofs.Common.{◌∙◌, leb, rules}
use Rattle.std.proofs.lemmas.List.Sorted.{IsPartitionPoint-from_clause, IsPartitionedBy-leb}
use Rattle.ados_script.proofs.ListLemmas.{first_above, lent}
use Rattle.ados_script.proofs.skips.first_below.Goals as goal

pub returns : goal.returns
returns c =
    let parted = IsPartitionedBy-leb (λ line. line) _ c.args.i c.requires in
    let point = IsPartitionPoint-from_clause (λ line. leb line c.args.i) _ _ c.partition_point.ensures.partitioned parted (λ a r q k. search rules) in
    c.copied.ensures ∙ lent _ _ _ c.get.ensures.lookup ∙ first_above (λ line. line) _ c.args.i _ point
