use Rattle.std.proofs.Common.{◌≡◌, ◌∙◌, ◌++◌, ◌∷◌, List, ap, sym, subst, take, drop, IsTrue}
use Rattle.std.specs.FinMap as map
use Rattle.ados_text.specs.Text.{folded_text}
use Rattle.ados_text.specs.Name.{name_cmp}
use Rattle.ados_ram.specs.Tree.{Kids, replace_kid}
use Rattle.ados_ram.specs.Blocks.{all_kids, AllFull, IsBlockOf}
use Rattle.ados_ram.proofs.ChangeLemmas.{sorted-with}
use Rattle.ados_ram.proofs.BlockLemmas.{all-append, full-front, full-back, middle-sorted, changed_in, changed_after, full-append}
use Rattle.ados_ram.proofs.children.Children.with.Goals as goal

pub invariant_of-result : goal.invariant_of-result
invariant_of-result c =
    let bs = c.self.inside.blocks.items in
    let i = c.block_of-at.result in
    let x = folded_text c.args.name.now in
    let at : IsBlockOf x bs i = subst (λ (t : List Kids). IsBlockOf x t i) c.deref.ensures.value c.block_of-at.ensures.parted in
    let shared : c.share_blocks.new.out.items ≡ c.split_at.result.0.now = c.in_ok-share_blocks.ensures ∙ ap (λ (t : List Kids). t ++ c.split_at.result.0.now) c.in_ok-blocks.ensures.items in
    let kids : all_kids c.push_block.new.out.items ≡ replace_kid x c.args.new (all_kids bs) =
    changed_after x c.args.new bs c.split_at.result.0.now c.split_at.result.1.now i c.in_ok-changed.field-0.items c.push_block.new.out.items at
    (c.split_at.ensures.front ∙ ap (take i) c.deref-2.ensures.value) (c.split_at.ensures.back ∙ ap (drop i) c.deref-2.ensures.value) c.in_default.ensures.cases c.in_ok-changed.ensures
    (c.in_ok-push_block.ensures.kids ∙ ap (λ (t : List Kids). all_kids t ++ c.in_ok-changed.field-0.items) shared) in
    record {
      sorted = subst (λ (ks : Kids). IsTrue (map.is_sorted name_cmp ks)) (sym kids) (sorted-with x c.args.new (all_kids bs) c.self.invariant.sorted);
      full = c.in_ok-push_block.ensures.full;
    }

pub returns-in_default : goal.returns-in_default
returns-in_default c =
    let bs = c.self.inside.blocks.items in
    let i = c.block_of-at.result in
    let x = folded_text c.args.name.now in
    let at : IsBlockOf x bs i = subst (λ (t : List Kids). IsBlockOf x t i) c.deref.ensures.value c.block_of-at.ensures.parted in
    let shared : c.share_blocks.new.out.items ≡ c.split_at.result.0.now = c.in_ok-share_blocks.ensures ∙ ap (λ (t : List Kids). t ++ c.split_at.result.0.now) c.in_ok-blocks.ensures.items in
    changed_after x c.args.new bs c.split_at.result.0.now c.split_at.result.1.now i c.in_ok-changed.field-0.items c.push_block.new.out.items at
    (c.split_at.ensures.front ∙ ap (take i) c.deref-2.ensures.value) (c.split_at.ensures.back ∙ ap (drop i) c.deref-2.ensures.value) c.in_default.ensures.cases c.in_ok-changed.ensures
    (c.in_ok-push_block.ensures.kids ∙ ap (λ (t : List Kids). all_kids t ++ c.in_ok-changed.field-0.items) shared)
    ∙ ap (replace_kid x c.args.new) c.self.view_is

pub changed-requires-2-clause-sorted : goal.changed-requires-2-clause-sorted
changed-requires-2-clause-sorted c =
    let bs = c.self.inside.blocks.items in
    let front = c.split_at.result.0.now in
    let whole : all_kids bs ≡ all_kids front ++ (c.in-Some.block.now ++ all_kids c.in-Some.after.now) =
    ap all_kids (sym c.deref-2.ensures.value ∙ c.split_at.ensures.by_index.0 ∙ ap (λ (t : List Kids). front ++ t) c.in-Some.ensures.cases.0) ∙ all-append front (c.in-Some.block.now ∷ c.in-Some.after.now) in
    middle-sorted (all_kids front) c.kids.result.now (all_kids c.in-Some.after.now) (all_kids bs)
    (whole ∙ ap (λ (b : Kids). all_kids front ++ (b ++ all_kids c.in-Some.after.now)) (sym c.kids.ensures)) c.self.invariant.sorted

pub push_block-requires-2 : goal.push_block-requires-2
push_block-requires-2 c =
    let bs = c.self.inside.blocks.items in
    let front = c.split_at.result.0.now in
    let shared : c.share_blocks.new.out.items ≡ front = c.in_ok-share_blocks.ensures ∙ ap (λ (t : List Kids). t ++ front) c.in_ok-blocks.ensures.items in
    let whole : bs ≡ front ++ c.split_at.result.1.now = sym c.deref-2.ensures.value ∙ c.split_at.ensures.by_index.0 in
    subst AllFull (sym shared) (full-front front c.split_at.result.1.now (subst AllFull whole c.self.invariant.full))

pub invariant_of-result-2 : goal.invariant_of-result-2
invariant_of-result-2 c =
    let bs = c.self.inside.blocks.items in
    let i = c.block_of-at.result in
    let x = folded_text c.args.name.now in
    let front = c.split_at.result.0.now in
    let after = c.in-Some.after.now in
    let at : IsBlockOf x bs i = subst (λ (t : List Kids). IsBlockOf x t i) c.deref.ensures.value c.block_of-at.ensures.parted in
    let shared : c.share_blocks.new.out.items ≡ front = c.in_ok-share_blocks.ensures ∙ ap (λ (t : List Kids). t ++ front) c.in_ok-blocks.ensures.items in
    let out : c.in_ok-changed-2.field-0.items ≡ replace_kid x c.args.new c.in-Some.block.now = c.in_ok-changed-2.ensures ∙ ap (replace_kid x c.args.new) c.kids.ensures in
    let made : all_kids c.share_blocks-2.new.out.items ≡ (all_kids front ++ c.in_ok-changed-2.field-0.items) ++ all_kids after =
    ap all_kids c.in_ok-share_blocks-2.ensures ∙ all-append c.push_block-2.new.out.items after
    ∙ ap (λ (ks : Kids). ks ++ all_kids after) (c.in_ok-push_block-2.ensures.kids ∙ ap (λ (t : List Kids). all_kids t ++ c.in_ok-changed-2.field-0.items) shared) in
    let kids : all_kids c.share_blocks-2.new.out.items ≡ replace_kid x c.args.new (all_kids bs) =
    changed_in x c.args.new bs front after i c.in-Some.block.now c.in_ok-changed-2.field-0.items c.share_blocks-2.new.out.items at
    (c.split_at.ensures.front ∙ ap (take i) c.deref-2.ensures.value) (sym (c.split_at.ensures.back ∙ ap (drop i) c.deref-2.ensures.value) ∙ c.in-Some.ensures.cases.0) out made in
    let whole : bs ≡ front ++ c.split_at.result.1.now = sym c.deref-2.ensures.value ∙ c.split_at.ensures.by_index.0 in
    let rest : AllFull c.split_at.result.1.now = full-back front c.split_at.result.1.now (subst AllFull whole c.self.invariant.full) in
    let last : AllFull after = (subst AllFull c.in-Some.ensures.cases.0 rest).1 in
    record {
      sorted = subst (λ (ks : Kids). IsTrue (map.is_sorted name_cmp ks)) (sym kids) (sorted-with x c.args.new (all_kids bs) c.self.invariant.sorted);
      full = subst AllFull (sym c.in_ok-share_blocks-2.ensures) (full-append c.push_block-2.new.out.items after c.in_ok-push_block-2.ensures.full last);
    }

pub returns : goal.returns
returns c =
    let bs = c.self.inside.blocks.items in
    let i = c.block_of-at.result in
    let x = folded_text c.args.name.now in
    let front = c.split_at.result.0.now in
    let after = c.in-Some.after.now in
    let at : IsBlockOf x bs i = subst (λ (t : List Kids). IsBlockOf x t i) c.deref.ensures.value c.block_of-at.ensures.parted in
    let shared : c.share_blocks.new.out.items ≡ front = c.in_ok-share_blocks.ensures ∙ ap (λ (t : List Kids). t ++ front) c.in_ok-blocks.ensures.items in
    let out : c.in_ok-changed-2.field-0.items ≡ replace_kid x c.args.new c.in-Some.block.now = c.in_ok-changed-2.ensures ∙ ap (replace_kid x c.args.new) c.kids.ensures in
    let made : all_kids c.share_blocks-2.new.out.items ≡ (all_kids front ++ c.in_ok-changed-2.field-0.items) ++ all_kids after =
    ap all_kids c.in_ok-share_blocks-2.ensures ∙ all-append c.push_block-2.new.out.items after
    ∙ ap (λ (ks : Kids). ks ++ all_kids after) (c.in_ok-push_block-2.ensures.kids ∙ ap (λ (t : List Kids). all_kids t ++ c.in_ok-changed-2.field-0.items) shared) in
    changed_in x c.args.new bs front after i c.in-Some.block.now c.in_ok-changed-2.field-0.items c.share_blocks-2.new.out.items at
    (c.split_at.ensures.front ∙ ap (take i) c.deref-2.ensures.value) (sym (c.split_at.ensures.back ∙ ap (drop i) c.deref-2.ensures.value) ∙ c.in-Some.ensures.cases.0) out made
    ∙ ap (replace_kid x c.args.new) c.self.view_is
