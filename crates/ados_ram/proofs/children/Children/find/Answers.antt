use Rattle.std.proofs.Common.{◌++◌, ◌∙◌, ap, sym, drop, take, ◌+◌}
use Rattle.std.specs.Option.{option_copied}
use Rattle.std.specs.FinMap as map
use Rattle.ados_text.specs.Text.{folded_text}
use Rattle.ados_text.specs.Name.{name_cmp}
use Rattle.ados_ram.specs.Tree.{Kids, rows_found}
use Rattle.ados_ram.specs.Blocks.{all_kids}
use Rattle.ados_ram.proofs.BlockLemmas.{around, block-at, middle-sorted, found_in, found_none}
use Rattle.ados_ram.proofs.children.Children.find.Goals as goal

pub kid_at-requires : goal.kid_at-requires
kid_at-requires c =
    let bs = c.self.inside.blocks.items in
    let i = c.block_of.result in
    let item = block-at bs i c.get.result c.deref.ensures.value c.get.ensures.lookup ∙ ap option_copied c.in-Some.is in
    middle-sorted (all_kids (take i bs)) c.kids.result.now (all_kids (drop (i + 1) bs)) (all_kids bs)
    (around bs i c.in-Some.block.now item ∙ ap (λ (b : Kids). all_kids (take i bs) ++ (b ++ all_kids (drop (i + 1) bs))) (sym c.kids.ensures)) c.self.invariant.sorted

pub returns-in-None-clause-rows : goal.returns-in-None-clause-rows
returns-in-None-clause-rows c =
    let bs = c.self.inside.blocks.items in
    let x = folded_text c.args.name.now in
    let item = block-at bs c.block_of.result c.get.result c.deref.ensures.value c.get.ensures.lookup ∙ ap option_copied c.in-None.is in
    sym (ap (λ (ks : Kids). rows_found (map.find name_cmp x ks)) (sym c.self.view_is) ∙ ap rows_found (found_none x bs c.block_of.result c.deref-2.ensures.value c.block_of.ensures.parted item))

pub returns-in-Some-clause-rows : goal.returns-in-Some-clause-rows
returns-in-Some-clause-rows c =
    let bs = c.self.inside.blocks.items in
    let x = folded_text c.args.name.now in
    let item = block-at bs c.block_of.result c.get.result c.deref.ensures.value c.get.ensures.lookup ∙ ap option_copied c.in-Some.is in
    c.kid_at.ensures.rows ∙ ap (λ (ks : Kids). rows_found (map.find name_cmp x ks)) c.kids.ensures
    ∙ sym (ap (λ (ks : Kids). rows_found (map.find name_cmp x ks)) (sym c.self.view_is) ∙ ap rows_found (found_in x bs c.block_of.result c.in-Some.block.now c.deref-2.ensures.value c.block_of.ensures.parted item))
