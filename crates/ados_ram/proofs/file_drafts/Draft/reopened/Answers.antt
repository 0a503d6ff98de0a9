use Rattle.std.proofs.Common.{rules, ◌≡◌, ◌∙◌, ◌++◌, ◌∷◌, [], ap, sym, subst, List, ℕ, length, arith}
use Rattle.std.specs.List.{concat}
use Rattle.ados_ram.specs.Cut.{AllOf, IsCut, piece_bytes, block_bytes}
use Rattle.ados_ram.proofs.ConcatLemmas.{one-more}
use Rattle.ados_ram.proofs.CutLemmas.{cut-pop, few-pieces}
use Rattle.ados_ram.proofs.file_drafts.Draft.reopened.Goals as goal

pub returns-clause-bytes : goal.returns-clause-bytes
returns-clause-bytes c =
    let front = c.in-Some.before.now in
    let last = c.in-Some.last.now in
    let split : c.args.blocks.now ≡ front ++ (last ∷ []) = search rules in
    let blocks : c.share_blocks.new.out.items ≡ front = search rules in
    let pieces : c.share_pieces.new.out.items ≡ c.pieces-there.result.now = search rules in
    ap (λ (t : List (List ℕ)). concat t ++ concat c.share_pieces.new.out.items) blocks ∙ ap (λ (t : List (List ℕ)). concat front ++ concat t) pieces ∙ ap (λ (t : List ℕ). concat front ++ t) c.pieces-there.ensures.bytes
    ∙ sym (ap concat split ∙ one-more front last)

pub returns-clause-cut : goal.returns-clause-cut
returns-clause-cut c =
    let front = c.in-Some.before.now in
    let last = c.in-Some.last.now in
    let split : c.args.blocks.now ≡ front ++ (last ∷ []) = search rules in
    let blocks : c.share_blocks.new.out.items ≡ front = search rules in
    let pieces : c.share_pieces.new.out.items ≡ c.pieces-there.result.now = search rules in
    let l = cut-pop block_bytes front last (subst (IsCut block_bytes) split c.requires) in
    record {
      blocks_full = subst (AllOf block_bytes) (sym blocks) l.full;
      cut = subst (IsCut piece_bytes) (sym pieces) c.pieces-there.ensures.cut;
      few = omega (arith, ap length pieces, few-pieces c.pieces-there.result.now c.pieces-there.ensures.cut (omega (arith, ap length c.pieces-there.ensures.bytes, l.most)));
    }
