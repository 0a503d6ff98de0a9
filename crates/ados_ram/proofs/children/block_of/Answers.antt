use Rattle.std.proofs.Common.{rules, sym, subst, ℕ}
use Rattle.std.proofs.lemmas.List.Sorted.{IsPartitionPoint-from_clause}
use Rattle.ados_text.specs.Text.{folded_text}
use Rattle.ados_ram.specs.Blocks.{first_is_at_most, IsBlockOf}
use Rattle.ados_ram.proofs.TreeLemmas.{holds}
use Rattle.ados_ram.proofs.BlockLemmas.{parts, parted}
use Rattle.ados_ram.proofs.children.block_of.Goals as goal

pub returns-clause-parted : goal.returns-clause-parted
returns-clause-parted c =
    let x = folded_text c.args.name.now in
    let bs = c.args.blocks.now in
    let point = IsPartitionPoint-from_clause (first_is_at_most x) _ _ c.partition_point.ensures.partitioned (parts x bs (holds _ c.requires.sorted) c.requires.full) (λ a r q k. search rules) in
    subst (λ (i : ℕ). IsBlockOf x bs i) (sym c.saturating_sub.ensures) (parted x bs c.partition_point.result c.requires c.partition_point.ensures.bound point)
