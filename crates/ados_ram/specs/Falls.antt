-- Why functions down the tree end: a node is at most three times as deep as it has rows.
use Rattle.std.specs.Prelude.{◌≡◌, ℕ, ◌≤◌, ◌+◌, ◌*◌, max, length, refl, List, [], ◌∷◌, ◌++◌}
use Rattle.std.proofs.Common.{arith, length-append}
use Rattle.ados_ram.specs.declared.branches.Branch.TheInside as branch
use Rattle.ados_ram.specs.declared.children.Children.TheInside as children
use Rattle.ados_ram.specs.declared.children.Block.TheInside as block
use Rattle.ados_ram.specs.declared.branches.Branch.TheDeep.{deep-Node}
use Rattle.ados_ram.specs.Files.{Rows}
use Rattle.ados_ram.specs.Tree.{Kid, Kids, rows_under_name, flatten, rows_of}
use Rattle.ados_ram.specs.Blocks.{all_kids}
use denote.Param.Weighed.{most}

length-under : (n : List ℕ) (es : Rows) → length (rows_under_name n es) ≡ length es
length-under n [] = refl
length-under n (e ∷ es) = omega (arith, length-under n es)

most_kids : (ks : Kids) → most (λ (k : Kid). 3 * length k.1 + 1) ks ≤ 3 * length (flatten ks) + 1
most_kids [] = omega arith
most_kids (k ∷ ks) = omega (arith, most_kids ks, length-append (rows_under_name k.0 k.1) (flatten ks), length-under k.0 k.1)

length-flatten : (a b : Kids) → length (flatten (a ++ b)) ≡ length (flatten a) + length (flatten b)
length-flatten [] b = omega arith
length-flatten (k ∷ a) b = omega (arith, length-append (rows_under_name k.0 k.1) (flatten (a ++ b)), length-append (rows_under_name k.0 k.1) (flatten a), length-flatten a b)

most_blocks : (bs : List Kids) → most (λ (b : Kids). 3 * length (flatten b) + 1 + 1) bs ≤ 3 * length (flatten (all_kids bs)) + 2
most_blocks [] = omega arith
most_blocks (b ∷ bs) = omega (arith, most_blocks bs, length-flatten b (all_kids bs))

pub falls : (a : branch.Inside) → max (deep-Node a.node.value) 0 ≤ 3 * length (rows_of a.node.value.head.value.entry a.node.value.kids)
falls a = omega arith

pub falls-children : (a : children.Inside) → max (most (λ (b : Kids). 3 * length (flatten b) + 1 + 1) a.blocks.items) 0 ≤ 3 * length (flatten (all_kids a.blocks.items)) + 2
falls-children a = omega (arith, most_blocks a.blocks.items)

pub falls-block : (a : block.Inside) → max (most (λ (k : Kid). 3 * length k.1 + 1) a.kids.value.items) 0 ≤ 3 * length (flatten a.kids.value.items) + 1
falls-block a = omega (arith, most_kids a.kids.value.items)
