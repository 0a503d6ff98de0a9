use Rattle.std.proofs.Common.{◌≡◌, ◌∙◌, ◌∷◌, ◌+◌, ap, subst, List, ℕ, drop}
use Rattle.std.specs.List.{concat}
use Rattle.ados_ram.specs.Starts.{left_of}
use Rattle.ados_ram.proofs.StartLemmas.{left-step, left-fails, drop-at}
use Rattle.ados_ram.proofs.file_units.left_of_block.Goals as goal

pub returns-in_default : goal.returns-in_default
returns-in_default c =
    let ps = c.pieces-piece-items.result.now in
    let i = c.loop-piece.piece-index in
    let at : drop i ps ≡ c.piece-item.result ∷ drop (i + 1) ps = drop-at ps i c.piece-item.result c.loop-piece-test.true c.piece-item.is in
    let goes : left_of (concat (drop i ps)) c.loop-piece.wanted.now ≡ left_of c.args.block.now c.args.wanted.now = c.loop-piece.invariant ∙ ap (λ (t : List ℕ). left_of t c.args.wanted.now) c.pieces-piece-items.ensures.bytes in
    left-fails c.piece-item.result (drop (i + 1) ps) c.loop-piece.wanted.now _ (subst (λ (t : List (List ℕ)). left_of (concat t) c.loop-piece.wanted.now ≡ left_of c.args.block.now c.args.wanted.now) at goes) (c.in_default.ensures ∙ ap (λ (t : List ℕ). left_of t c.loop-piece.wanted.now) c.as_bytes.ensures)

pub loop-piece-preserved : goal.loop-piece-preserved
loop-piece-preserved c =
    let ps = c.pieces-piece-items.result.now in
    let i = c.loop-piece.piece-index in
    let at : drop i ps ≡ c.piece-item.result ∷ drop (i + 1) ps = drop-at ps i c.piece-item.result c.loop-piece-test.true c.piece-item.is in
    left-step c.piece-item.result (drop (i + 1) ps) c.loop-piece.wanted.now c.in-Some.rest.now _ (subst (λ (t : List (List ℕ)). left_of (concat t) c.loop-piece.wanted.now ≡ left_of (concat ps) c.args.wanted.now) at c.loop-piece.invariant) (c.in-Some.ensures ∙ ap (λ (t : List ℕ). left_of t c.loop-piece.wanted.now) c.as_bytes.ensures)
