use Rattle.std.proofs.Common.{◌≡◌, ◌∷◌, ◌+◌, subst, List, ℕ, drop}
use Rattle.std.specs.List.{concat}
use Rattle.ados_ram.specs.Starts.{left_of}
use Rattle.ados_ram.proofs.StartLemmas.{left-step, left-fails, drop-at}
use Rattle.ados_ram.proofs.file_units.left_of_blocks.Goals as goal

pub returns-in_default : goal.returns-in_default
returns-in_default c =
    let bs = c.args.blocks.now in
    let i = c.loop-block.block-index in
    let at : drop i bs ≡ c.block-item.result ∷ drop (i + 1) bs = drop-at bs i c.block-item.result c.loop-block-test.true c.block-item.is in
    left-fails c.block-item.result (drop (i + 1) bs) c.loop-block.wanted.now _ (subst (λ (t : List (List ℕ)). left_of (concat t) c.loop-block.wanted.now ≡ left_of (concat bs) c.args.wanted.now) at c.loop-block.invariant) c.in_default.ensures

pub loop-block-preserved : goal.loop-block-preserved
loop-block-preserved c =
    let bs = c.args.blocks.now in
    let i = c.loop-block.block-index in
    let at : drop i bs ≡ c.block-item.result ∷ drop (i + 1) bs = drop-at bs i c.block-item.result c.loop-block-test.true c.block-item.is in
    left-step c.block-item.result (drop (i + 1) bs) c.loop-block.wanted.now c.in-Some.rest.now _ (subst (λ (t : List (List ℕ)). left_of (concat t) c.loop-block.wanted.now ≡ left_of (concat bs) c.args.wanted.now) at c.loop-block.invariant) c.in-Some.ensures
