use Rattle.std.proofs.Common.{rules}
use Rattle.std.specs.Ordering.{is_eq, is_lt}
use Rattle.std.proofs.lemmas.List.{take_rest}
use Rattle.std.proofs.lemmas.List.Sorted.{IsPartitionPoint-from_clause}
use Rattle.ados_script.proofs.LabelLemmas.{against, found_all, parted_equal, parted_less}
use Rattle.ados_script.proofs.labels.all_of.Goals as goal

pub returns : goal.returns
returns c =
    let text = c.args.text.now in
    let labels = c.args.labels.now in
    let k = c.partition_point-from.result in
    let less = IsPartitionPoint-from_clause (λ label. is_lt (against text label)) _ _ c.partition_point-from.ensures.partitioned (parted_less text labels c.requires) (λ a r q k. search rules) in
    let rest = take_rest labels k in
    rw rest (found_all text labels k c.partition_point.result less
    (IsPartitionPoint-from_clause (λ label. is_eq (against text label)) _ _ (rw rest at c.partition_point.ensures.partitioned) (parted_equal text labels k c.requires less.1) (λ a r q k. search rules)))
