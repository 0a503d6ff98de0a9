-- A world keeps the last codes of every number, and an event changes only those of shells that it changes.
use Rattle.std.proofs.Common.{◌≡◌, ◌∙◌, sym, ℕ, zero, suc, ◌-◌, List, [], ◌∷◌, Bool, Option, Some, None, Result, Ok, Err, length, map, refl, ap, arith, inl, inr}
use Rattle.std.specs.List.{slice_set}
use Rattle.std.proofs.lemmas.Bool.{cases_Bool}
use Rattle.std.proofs.lemmas.Grind.{common_steps}
use Rattle.std.proofs.lemmas.Option.{gets}
use Rattle.ados_find.specs.declared.codes.Codes.{Codes}
use Rattle.ados_find.specs.declared.outcomes.Breaking.{Breaking}
use Rattle.ados_find.specs.declared.outcomes.Breaks.{Breaks}
use Rattle.ados_find.specs.declared.outcomes.Renamed.{Renamed}
use Rattle.ados_machine.specs.declared.answers.Answer.{Answer as Reply}
use Rattle.ados_machine.specs.declared.events.Event.{Event}
use Rattle.ados_machine.specs.declared.outs.Out.{Out}
use Rattle.ados_machine.specs.declared.refusals.Refusal.{Refusal}
use Rattle.ados_machine.specs.declared.events.BreakKind.{BreakKind}
use Rattle.ados_machine.specs.Breaks.{kind_breaks, broken_at, broken_number, shells_after_break}
use Rattle.ados_machine.specs.Carrying.{carried_place, carried_shells}
use Rattle.ados_machine.specs.Numbers.{free_number}
use Rattle.ados_machine.specs.Runs.{resulting_world}
use Rattle.ados_machine.specs.Apply.{TurnResult}
use Rattle.ados_machine.specs.Shells.{ShellStart, begun_shell, ShellState}
use Rattle.ados_machine.specs.Step.{Response, Refused, Accepted, with_begun, is_done, shell_after_turn, codes_of_ended, moved_at_turn, start, course_without_flag, turning_response, turn_response, answer_response, break_response, step_of}
use Rattle.ados_machine.specs.Trace.{items_after, trace, own}
use Rattle.ados_machine.specs.Turning.{Turning, Refuses, Ends, Turned, flagged_turning, turning_of_answer}
use Rattle.ados_machine.specs.World.{WorldState, input_of, codes_at}
use Rattle.ados_machine.specs.Kept.{codes_after_trace, HasAllCodes, FreshWorldsHaveAllCodes, EventsKeepAllCodes, LastCodesStay}
use Rattle.ados_machine.proofs.Shells.{shells_after, own-append}
use Rattle.ados_machine.proofs.Sane.{sane-after}
use Rattle.ados_machine.proofs.CodesLemmas.{after-append, step-codes, after-codes}
use Rattle.ados_machine.proofs.StepCases.{of-step}

-- each number keeps last codes
length-set : {X : Type 0} (xs : List X) (i : ℕ) (x : X) → length (slice_set xs i x) ≡ length xs
length-set xs i x = grind (arith, common_steps, gets)

length-map : (renamed : List Renamed) (shells : List (Option ShellState)) → length (map (carried_place renamed) shells) ≡ length shells
length-map renamed [] = refl
length-map renamed (first ∷ shells) = ap suc (length-map renamed shells)

length-carried : (renamed : List Renamed) (shells : List (Option ShellState)) → length (carried_shells renamed shells) ≡ length shells
length-carried [] shells = refl
length-carried (renamed ∷ more) shells = length-map (renamed ∷ more) shells

length-begun : (begun : Option ShellStart) (n : Option ℕ) (shells : List (Option ShellState)) → length (with_begun begun n shells) ≡ length shells
length-begun None n shells = refl
length-begun (Some begun) None shells = refl
length-begun (Some begun) (Some n) shells = length-set shells (n - 1) (Some (begun_shell n begun))

length-broken_at : (breaks : Breaks) (n : ℕ) (shells : List (Option ShellState)) → length (broken_at breaks n shells) ≡ length shells
length-broken_at breaks n [] = refl
length-broken_at breaks zero (first ∷ shells) = refl
length-broken_at breaks (suc n) (first ∷ shells) = ap suc (length-broken_at breaks n shells)

length-broken_number : (breaks : Breaks) (n : ℕ) (shells : List (Option ShellState)) → length (broken_number breaks n shells) ≡ length shells
length-broken_number breaks zero shells = refl
length-broken_number breaks (suc n) shells = length-broken_at breaks n shells

length-broken : (breaking : Option Breaking) (shells : List (Option ShellState)) → length (shells_after_break breaking shells) ≡ length shells
length-broken None shells = refl
length-broken (Some breaking) shells = length-broken_number breaking.breaks breaking.shell shells

length-after : (shells : List (Option ShellState)) (k : ℕ) (moved : List Renamed) (t : TurnResult) → length (shells_after shells k moved t) ≡ length shells
length-after shells k moved t =
    let placed = with_begun t.course.begun (free_number shells) (carried_shells moved shells) in
    length-set (shells_after_break t.course.breaking placed) (k - 1) (shell_after_turn k moved t)
    ∙ (length-broken t.course.breaking placed
    ∙ length-begun t.course.begun (free_number shells) (carried_shells moved shells) ∙ length-carried moved shells)

length-ended : (done : Bool) (k : ℕ) (codes : Codes) (ended : List Codes) → length (codes_of_ended done k codes ended) ≡ length ended
length-ended done k codes ended =
    elim (cases_Bool done) [
      | inl e ↦ rw e (length-set ended (k - 1) codes)
      | inr e ↦ rw e refl
    ]

abbrev KeepsAll : Response → Type 0
KeepsAll (Refused why) = Unit {0}
KeepsAll (Accepted world given items) = HasAllCodes world

applied-all : (w : WorldState) (k : ℕ) (codes : Codes) (now : Turning) → HasAllCodes w → KeepsAll (turning_response w k codes now)
applied-all w k codes (Refuses why) all = tt
applied-all w k codes Ends all = length-set w.ended (k - 1) codes ∙ (all ∙ sym (length-set w.shells (k - 1) None))
applied-all w k codes (Turned queue t) all =
    length-ended (is_done k t.frames) k t.course.parts.codes w.ended ∙ (all ∙ sym (length-after w.shells k (moved_at_turn w t) t))

turned-all : (w : WorldState) (k : ℕ) (o : Option ShellState) → HasAllCodes w → KeepsAll (turn_response w k o)
turned-all w k None all = tt
turned-all w k (Some shell) all =
    applied-all w k shell.parts.codes (flagged_turning shell.flagged (input_of w k) shell.frames (course_without_flag (start w shell)) shell.phase) all

answered-all : (w : WorldState) (k : ℕ) (reply : Reply) (o : Option ShellState) → HasAllCodes w → KeepsAll (answer_response w k reply o)
answered-all w k reply None all = tt
answered-all w k reply (Some shell) all =
    applied-all w k shell.parts.codes (turning_of_answer (input_of w k) shell.frames (start w shell) shell.phase reply) all

break-all : (w : WorldState) (k : ℕ) (kind : BreakKind) (o : Option ShellState) → HasAllCodes w → KeepsAll (break_response w k kind o)
break-all w k kind None all = tt
break-all w k kind (Some shell) all = all ∙ sym (length-broken_number (kind_breaks kind) k w.shells)

step-all : (w : WorldState) (event : Event) → HasAllCodes w → KeepsAll (step_of w event)
step-all w event all = of-step w (λ event response. KeepsAll response) (record {
  refused = λ event why. tt;
  typed = λ line. all;
  ended = all;
  turned = λ k shell is. turned-all w k (Some shell) all;
  answered = λ k reply shell is. answered-all w k reply (Some shell) all;
  broken = λ k kind shell is. break-all w k kind (Some shell) all;
}) event

after-all : (w : WorldState) (out : Result Out Refusal) (r : Response) → HasAllCodes w → KeepsAll r → HasAllCodes (resulting_world w out r)
after-all w (Ok out) (Accepted world given items) all keeps = keeps
after-all w (Ok out) (Refused why) all keeps = all
after-all w (Err refusal) (Accepted world given items) all keeps = all
after-all w (Err refusal) (Refused why) all keeps = all

pub fresh-all : FreshWorldsHaveAllCodes
fresh-all dialect hosts = refl

pub events-keep-all : EventsKeepAllCodes
events-keep-all w event out all = after-all w out (step_of w event) all (step-all w event all)

pub last-codes-stay : LastCodesStay
last-codes-stay w [] [] last run sane all k = rw run refl
last-codes-stay w [] (out ∷ outs) last run sane all k = absurd run
last-codes-stay w (event ∷ events) [] last run sane all k = absurd run
last-codes-stay w (event ∷ events) (out ∷ outs) last run sane all k =
    let mid : WorldState = resulting_world w out (step_of w event) in
    let here = items_after out (step_of w event) in
    rw (own-append k here (trace mid events outs), after-append (codes_at w k) (own k here) (own k (trace mid events outs)))
    (last-codes-stay mid events outs last run.1 (sane-after w event out sane) (events-keep-all w event out all) k
    ∙ ap (λ codes. codes_after_trace codes (own k (trace mid events outs))) (after-codes w out (step_of w event) (step-codes w event sane all) k))
