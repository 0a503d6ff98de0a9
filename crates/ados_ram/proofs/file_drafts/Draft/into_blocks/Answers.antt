use Rattle.std.proofs.Common.{rules, ◌∙◌, ◌++◌, ◌<◌, ◌≤◌, ap, sym, subst, List, ℕ, length, arith}
use Rattle.std.specs.List.{concat}
use Rattle.ados_ram.specs.Cut.{IsCut, block_bytes}
use Rattle.ados_ram.proofs.ConcatLemmas.{one-more}
use Rattle.ados_ram.proofs.CutLemmas.{cut-push, all-cut, cut-most, some-bytes}
use Rattle.ados_ram.proofs.file_drafts.Draft.into_blocks.Goals as goal

pub returns-then-is_empty-clause-cut : goal.returns-then-is_empty-clause-cut
returns-then-is_empty-clause-cut c = all-cut block_bytes c.args.self.blocks.items (omega arith) c.requires.blocks_full

pub returns-clause-bytes : goal.returns-clause-bytes
returns-clause-bytes c =
    let front = c.args.self.blocks.items in
    ap concat c.in_ok-push.ensures.items ∙ one-more front c.in_ok-new.field-0 ∙ ap (λ (t : List ℕ). concat front ++ t) c.in_ok-new.ensures

pub returns-clause-cut : goal.returns-clause-cut
returns-clause-cut c =
    let ps = c.args.self.pieces.items in
    let full : 0 < length ps = search rules in
    let some : 0 < length c.in_ok-new.field-0 = omega (arith, ap length c.in_ok-new.ensures, some-bytes ps c.requires.cut full) in
    let most : length c.in_ok-new.field-0 ≤ block_bytes = omega (arith, ap length c.in_ok-new.ensures, cut-most ps c.requires.cut, c.requires.few) in
    subst (IsCut block_bytes) (sym c.in_ok-push.ensures.items) (cut-push block_bytes c.args.self.blocks.items c.in_ok-new.field-0 c.requires.blocks_full some most)
