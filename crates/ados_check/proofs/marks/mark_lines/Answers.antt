use Rattle.std.proofs.Common.{◌≡◌, ◌∙◌, ◌+◌, ◌-◌, ◌^◌, ◌<◌, ◌&&◌, ◌||◌, Bool, true, false, [], ℕ, length, drop, get_or, is_some, ap, arith, refl, subst, sym}
use Rattle.std.specs.List.{slice_split}
use Rattle.std.proofs.lemmas.List.{length-map}
use Rattle.ados_text.specs.Lines.{is_newline}
use Rattle.ados_check.specs.LeftOut.{is_between}
use Rattle.ados_check.specs.Marks.{is_in_printed, marked_if, prints_sign}
use Rattle.ados_check.specs.Signs.{is_dotted, sign_of}
use Rattle.ados_check.proofs.ChangeLemmas.{Leaves, leaves_less, leaves_same}
use Rattle.ados_check.proofs.MarkLemmas.{line_parted, marked_again, with_test}
use Rattle.ados_check.proofs.marks.mark_lines.Goals as goal
use Rattle.ados_check.proofs.marks.mark_lines.Goals.{in_default, in-Some+in_ok-push_problem}

pub loop-place-preserved : goal.loop-place-preserved
loop-place-preserved c =
    let all = slice_split is_newline c.args.bytes.now in
    let dotted = is_dotted c.args.bytes.now in
    let place = c.loop-place.place in
    let from = c.loop-place.from in
    let to = c.saturating_add-to.result in
    let next = c.saturating_add-from.result in
    let line = c.line_at-line.result.now in
    let is : line ≡ get_or all place [] = rw (c.line_at-line.ensures, c.deref.ensures.value, c.in_ok-lines.ensures) refl in
    let count : length all ≡ length c.in_ok-lines.lines.items = ap length (sym c.in_ok-lines.ensures) ∙ length-map c.in_ok-lines.lines.items _ in
    let inside : place < length all = omega (arith, count, c.loop-place-test.true) in
    let prints : is_some c.printed_problem.result ≡ prints_sign place line (sign_of dotted line) =
    c.printed_problem.ensures ∙ ap (λ d. prints_sign place line (sign_of d line)) c.is_dotted-is_dotted.ensures in
    let rest = λ (k : ℕ). is_in_printed dotted place from (drop place all) k in
    let less = λ (k : ℕ). is_in_printed dotted (place + 1) next (drop (place + 1) all) k in
    let whole = λ (k : ℕ). is_in_printed dotted 0 0 all k in
    let parted : (b : Bool) → prints_sign place line (sign_of dotted line) ≡ b → (k : ℕ) → k < length c.args.script.now → rest k ≡ ((b && is_between from to k) || less k) =
    λ b test k within.
    let fits = c.well_formed in
    let short : k < 2 ^ 64 - 1 = omega (arith, within) in
    line_parted dotted all place from to next k line inside is c.saturating_add-to.ensures c.saturating_add-from.ensures short
    ∙ with_test (is_between from to k) (prints_sign place line (sign_of dotted line)) (less k) b test in
    elim c.match-printed_problem.branch [
      | in_default w ↦
          subst (Leaves marked_if less whole c.args.script.now) (sym w.script-is)
          (leaves_same marked_if less rest whole c.args.script.now c.loop-place.script (parted false (sym prints ∙ ap is_some w.in_default.is)) c.loop-place.invariant)
      | in-Some+in_ok-push_problem w ↦
          subst (Leaves marked_if less whole c.args.script.now) (sym w.script-is)
          (leaves_less marked_if marked_again (is_between from to) less rest whole c.args.script.now c.loop-place.script w.mark_between.new.script (parted true (sym prints ∙ ap is_some w.in-Some.is)) c.loop-place.invariant w.mark_between.ensures)
    ]
