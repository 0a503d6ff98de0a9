use Rattle.std.proofs.Common.{suc, ◌==◌, ◌&&◌, ◌≡◌, ◌-◌, length, ◌∙◌, arith}
use Rattle.ados_script.proofs.PhraseLemmas.{spaced-done, spaced-end, spaced-more}
use Rattle.ados_script.proofs.phrases.spaced_words.Goals as goal
use Rattle.ados_script.proofs.phrases.spaced_words.Goals.{then-runs, else-runs}

pub returns-in_default : goal.returns-in_default
returns-in_default c =
    let n = length c.args.line.now - c.loop-step.step in
    spaced-done n c.args.line.now c.loop-step.runs c.loop-step.place _ c.loop-step.spaced c.in_default.ensures (c.loop-step.invariant (suc n) (omega arith))

pub loop-step-preserved : goal.loop-step-preserved
loop-step-preserved c n h =
    let goes_on : c.if-runs.push_piece ≡ (c.loop-step.runs && (c.in-Some.piece.from == c.loop-step.place)) = elim c.if-runs.branch [
      | then-runs w ↦ rw w.if-runs.true w.push_piece-is
      | else-runs w ↦ rw w.if-runs.false (w.push_piece-is ∙ w.if-runs.false)
    ] in
    spaced-more n c.args.line.now c.loop-step.runs c.loop-step.place c.in-Some.item c.in-Some.piece _ c.loop-step.spaced c.push_piece.new.spaced c.in-Some.ensures
    (c.loop-step.invariant (suc n) (omega arith))
    (rw goes_on at (c.in_ok-push_piece.ensures))

pub returns : goal.returns
returns c = spaced-end _ c.loop-step.spaced (c.loop-step.invariant 0 (omega arith))
