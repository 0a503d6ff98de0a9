use Rattle.std.proofs.Common.{rules, ◌≡◌, ◌∙◌, ◌++◌, ap, sym, subst, List, ℕ, length, arith}
use Rattle.std.specs.List.{concat}
use Rattle.ados_ram.specs.Cut.{AllOf, IsCut, piece_bytes, block_bytes}
use Rattle.ados_ram.proofs.ConcatLemmas.{one-more}
use Rattle.ados_ram.proofs.CutLemmas.{all-push, all-cut, all-length}
use Rattle.ados_ram.proofs.file_drafts.Draft.close_block.Goals as goal

pub new-requires-2 : goal.new-requires-2
new-requires-2 c =
    let moved : c.replace-pieces.result.items ≡ c.args.self.now.pieces.items = search rules in
    subst (IsCut piece_bytes) (sym moved) (all-cut piece_bytes c.args.self.now.pieces.items (omega arith) c.requires.pieces)

pub returns-clause-bytes : goal.returns-clause-bytes
returns-clause-bytes c =
    let moved : c.replace-pieces.result.items ≡ c.args.self.now.pieces.items = search rules in
    let front = c.args.self.now.blocks.items in
    ap concat c.in_ok-push.ensures.items ∙ one-more front c.in_ok-new.field-0 ∙ ap (λ (t : List ℕ). concat front ++ t) (c.in_ok-new.ensures ∙ ap concat moved)

pub returns-clause-blocks : goal.returns-clause-blocks
returns-clause-blocks c =
    let moved : c.replace-pieces.result.items ≡ c.args.self.now.pieces.items = search rules in
    let size : length c.in_ok-new.field-0 ≡ block_bytes = omega (arith, ap length (c.in_ok-new.ensures ∙ ap concat moved), all-length c.args.self.now.pieces.items c.requires.pieces, c.requires.count) in
    subst (AllOf block_bytes) (sym c.in_ok-push.ensures.items) (all-push block_bytes c.args.self.now.blocks.items c.in_ok-new.field-0 c.requires.blocks size)
