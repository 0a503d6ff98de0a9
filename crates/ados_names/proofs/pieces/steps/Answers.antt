use Rattle.std.proofs.Common.{◌+◌, ◌-◌, ◌∙◌, length, take, drop, ap, sym, List, ℕ, arith}
use Rattle.std.specs.List.{slice_split}
use Rattle.ados_names.specs.Names.{is_slash}
use Rattle.ados_names.specs.Path.{path_step, steps_of}
use Rattle.ados_names.proofs.PieceLemmas.{step-more, step-last}
use Rattle.ados_names.proofs.pieces.steps.Goals as goal

pub loop-length-preserved : goal.loop-length-preserved
loop-length-preserved c =
    let bytes = c.as_bytes-bytes.result.now in
    let from = c.loop-length.from in
    let is = c.in_ok-step.ensures ∙ ap (λ (t : List ℕ). path_step (take (from + c.in-Some.length - from) (drop from t))) (sym c.as_bytes-bytes.ensures.value) in
    record {
      within = omega (arith, c.in-Some.ensures.within);
      cut = step-more _ c.loop-length.steps.items _ bytes from c.in-Some.length _ c.loop-length.invariant.cut (sym c.in-Some.ensures.place) is c.in_ok-push.ensures.ok;
    }

pub returns : goal.returns
returns c =
    let bytes = c.as_bytes-bytes.result.now in
    let from = c.loop-length.from in
    let is = c.in_ok-step-2.ensures ∙ ap (λ (t : List ℕ). path_step (take (length bytes - from) (drop from t))) (sym c.as_bytes-bytes.ensures.value) in
    step-last _ c.loop-length.steps.items _ bytes from _ c.loop-length.invariant.cut (sym c.in_default.ensures.place) (omega arith) is c.in_ok-push-2.ensures.ok
    ∙ ap (λ (t : List ℕ). steps_of (slice_split is_slash (drop c.args.start t))) c.as_bytes-bytes.ensures.value
