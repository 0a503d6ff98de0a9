-- The last codes of each shell are those that its trace says.
use Rattle.std.proofs.Common.{◌≡◌, ◌≢◌, ◌∙◌, sym, ℕ, zero, suc, ◌-◌, ◌<◌, List, [], ◌∷◌, ◌++◌, Bool, Option, Some, None, Result, Ok, Err, length, slice_get, refl, ap, append-nil, arith, inl, inr}
use Rattle.std.specs.Prelude.{unwrap_or}
use Rattle.std.specs.List.{slice_set}
use Rattle.std.proofs.lemmas.Bool.{cases_Bool, cases_eq, eq-eqb, ne_eqb}
use Rattle.ados_text.specs.declared.codes.Code.{Code}
use Rattle.ados_find.specs.declared.codes.Codes.{Codes}
use Rattle.ados_find.specs.Codes.{went_well}
use Rattle.ados_find.specs.declared.outcomes.Breaks.{Breaks}
use Rattle.ados_find.specs.declared.outcomes.Renamed.{Renamed}
use Rattle.ados_machine.specs.declared.answers.Answer.{Answer as Reply}
use Rattle.ados_machine.specs.declared.events.Event.{Event}
use Rattle.ados_machine.specs.declared.outs.Out.{Out}
use Rattle.ados_machine.specs.declared.refusals.Refusal.{Refusal}
use Rattle.ados_machine.specs.declared.events.BreakKind.{BreakKind}
use Rattle.ados_machine.specs.Breaks.{kind_breaks, shells_after_break}
use Rattle.ados_machine.specs.Carrying.{carried_shells, carried_or_same}
use Rattle.ados_machine.specs.Items.{TraceItem, Began, Answered, Ended, Broke}
use Rattle.ados_machine.specs.FrameEnds.{IsSane}
use Rattle.ados_machine.specs.Numbers.{free_number}
use Rattle.ados_machine.specs.Runs.{resulting_world}
use Rattle.ados_machine.specs.Apply.{TurnResult}
use Rattle.ados_machine.specs.Shells.{ShellStart, begun_shell, ShellState}
use Rattle.ados_machine.specs.Stacks.{Entry, new_entry, with_last, stack_of, Standing, standing_of, initial_codes as codes_begun, limit_after_end, codes_after_end}
use Rattle.ados_machine.specs.Step.{Response, Refused, Accepted, of_shell, shell_of_turn, with_begun, begun_items, is_done, shell_after_turn, codes_of_ended, moved_at_turn, turn_taken, shell_ended, start, course_without_flag, turning_response, turn_response, answer_response, break_response, step_of}
use Rattle.ados_machine.specs.Trace.{items_after, own}
use Rattle.ados_machine.specs.Turning.{Turning, Refuses, Ends, Turned, flagged_turning, turning_of_answer}
use Rattle.ados_machine.specs.World.{WorldState, at_number, numbered_shell, input_of, shell_codes, codes_at}
use Rattle.ados_machine.specs.Kept.{codes_after_trace, HasAllCodes}
use Rattle.ados_machine.proofs.Follows.{back, Follows}
use Rattle.ados_machine.proofs.Turns.{Goes}
use Rattle.ados_machine.proofs.Turnings.{TurningGoes, flagged-goes, answering-goes}
use Rattle.ados_machine.proofs.Shells.{broken-same, carried-same, broken_maybe, broken_for, found-broken, found, IsFree, free-number, carried-free, carried_found, found-carried, carried-runs, found-set_same, found-set_other, found-left, own-append, own-of_shell_same, own-of_shell_other, place_before, place_within, not_before, runs_pos, slice_get-set_other, slice_get-set_same}
use Rattle.ados_machine.proofs.Moves.{placed-at, begun-silent}
use Rattle.ados_machine.proofs.StepCases.{of-step}

-- if a trace leads to a standing it leads to that one's codes
follows-codes : (limit : Code) (codes : Codes) (stack : List Entry) (log : List TraceItem) (stands : Standing) →
    Follows limit codes stack log (Some stands) → stands.codes ≡ codes_after_trace codes log
follows-codes limit codes stack [] stands h = ap (λ s. s.codes) h
follows-codes limit codes stack (Began d kind first ∷ log) stands h =
    follows-codes first (codes_begun kind codes) (new_entry kind first ∷ stack) log stands h.3
follows-codes limit codes [] (Answered d entry ∷ log) stands h = follows-codes entry.limit entry.codes [] log stands h.1
follows-codes limit codes (top ∷ below) (Answered d entry ∷ log) stands h =
    follows-codes entry.limit entry.codes (with_last top entry ∷ below) log stands h.2
follows-codes limit codes [] (Ended d kind line answer early ∷ log) stands h = absurd h
follows-codes limit codes (top ∷ below) (Ended d kind line answer early ∷ log) stands h =
    rw h.0.kind_is (follows-codes (limit_after_end top.kind (back below top.limit) limit) (codes_after_end top.kind answer codes) below log stands h.2)
follows-codes limit codes [] (Broke d kind line ∷ log) stands h = absurd h
follows-codes limit codes (top ∷ below) (Broke d kind line ∷ log) stands h = follows-codes limit codes below log stands h.3

pub after-append : (codes : Codes) (log more : List TraceItem) → codes_after_trace codes (log ++ more) ≡ codes_after_trace (codes_after_trace codes log) more
after-append codes [] more = refl
after-append codes (Began d kind first ∷ log) more = after-append (codes_begun kind codes) log more
after-append codes (Answered d entry ∷ log) more = after-append entry.codes log more
after-append codes (Ended d kind line answer early ∷ log) more = after-append (codes_after_end kind answer codes) log more
after-append codes (Broke d kind line ∷ log) more = after-append codes log more

-- the last codes that stay at a number
abbrev stays_at : List Codes → ℕ → Codes
stays_at ended k = unwrap_or (at_number ended k) went_well

set-same : (shells : List (Option ShellState)) (ended : List Codes) (k : ℕ) (shell : ShellState) (codes : Codes) →
    length ended ≡ length shells → found shells k ≡ Some shell → stays_at (slice_set ended (k - 1) codes) k ≡ codes
set-same shells ended zero shell codes all is = cc
set-same shells ended (suc i) shell codes all is =
    let within = place_within shells i shell (slice_get shells i) refl is in
    rw (place_before i, slice_get-set_same ended i codes (rw all within)) refl

set-other : (ended : List Codes) (k : ℕ) (codes : Codes) (j : ℕ) → j ≢ k → 0 < k → stays_at (slice_set ended (k - 1) codes) j ≡ stays_at ended j
set-other ended k codes zero ne pos = refl
set-other ended k codes (suc m) ne pos = ap (λ o. unwrap_or o went_well) (slice_get-set_other ended (k - 1) codes m (not_before m k ne pos))

with-other : (done : Bool) (ended : List Codes) (k : ℕ) (codes : Codes) (j : ℕ) → j ≢ k → 0 < k → stays_at (codes_of_ended done k codes ended) j ≡ stays_at ended j
with-other done ended k codes j ne pos =
    elim (cases_Bool done) [
      | inl e ↦ rw e (set-other ended k codes j ne pos)
      | inr e ↦ rw e refl
    ]

carried_by-codes : (renamed : List Renamed) (shell : ShellState) → (carried_or_same renamed shell).parts.codes ≡ shell.parts.codes
carried_by-codes [] shell = refl
carried_by-codes (renamed ∷ more) shell = refl

carried-codes : (renamed : List Renamed) (o : Option ShellState) (codes : Codes) → shell_codes (carried_found renamed o) codes ≡ shell_codes o codes
carried-codes renamed o codes = carried-same (λ x. shell_codes x codes) (λ moved shell. refl) renamed o

broken-codes : (breaks : Option Breaks) (o : Option ShellState) (codes : Codes) → shell_codes (broken_maybe breaks o) codes ≡ shell_codes o codes
broken-codes breaks o codes = broken-same (λ x. shell_codes x codes) (λ breaks shell. refl) breaks o

begun-codes : (shells : List (Option ShellState)) (begun : Option ShellStart) (n : Option ℕ) (j : ℕ) (codes : Codes) → IsFree shells n →
    shell_codes (found (with_begun begun n shells) j) codes ≡ codes_after_trace (shell_codes (found shells j) codes) (own j (begun_items begun n))
begun-codes shells None n j codes free = refl
begun-codes shells (Some begun) None j codes free = refl
begun-codes shells (Some begun) (Some n) j codes free =
    elim (cases_eq n j) [
      | inl same ↦
          (let there = placed-at shells n free.0 (Some (begun_shell n begun)) free.1 free.2 in
          rw (eq-eqb n j same) (rw (sym same) (rw there.0 refl)))
      | inr differ ↦ rw (ne_eqb n j differ)
          (ap (λ o. shell_codes o codes) (found-set_other shells n (Some (begun_shell n begun)) j (λ e. differ (sym e)) (omega (arith, free.1))))
    ]

-- an accepted event moves the last codes of each number by what its trace gets
abbrev LeadsCodes : WorldState → Response → Type 0
LeadsCodes w (Refused why) = Unit {0}
LeadsCodes w (Accepted world given items) = (j : ℕ) → codes_at world j ≡ codes_after_trace (codes_at w j) (own j items)

-- the codes of a shell after its turn, if it runs on and if it has ended
own-codes : (w : WorldState) (k : ℕ) (shell : ShellState) (t : TurnResult) → HasAllCodes w → numbered_shell w k ≡ Some shell → Goes shell.parts shell.frames t →
    shell_codes (shell_after_turn k (moved_at_turn w t) t) (stays_at (codes_of_ended (is_done k t.frames) k t.course.parts.codes w.ended) k) ≡ codes_after_trace (codes_at w k) t.log
own-codes w k shell t all is goes =
    let follows = follows-codes shell.parts.limit shell.parts.codes (stack_of shell.frames) t.log (standing_of (shell_of_turn t)) goes.follows in
    rw (ap (λ o. shell_codes o (stays_at w.ended k)) is)
    (elim (cases_Bool (is_done k t.frames)) [
      | inl d ↦ rw d (set-same w.shells w.ended k shell t.course.parts.codes all is ∙ follows)
      | inr d ↦ rw d (carried_by-codes (moved_at_turn w t) (shell_of_turn t) ∙ follows)
    ])

took-codes : (w : WorldState) (k : ℕ) (shell : ShellState) (queue : List (List ℕ)) (t : TurnResult) → HasAllCodes w → numbered_shell w k ≡ Some shell →
    Goes shell.parts shell.frames t → LeadsCodes w (turn_taken w k queue t)
took-codes w k shell queue t all is goes = λ j.
    let moved = moved_at_turn w t in
    let carried = carried_shells moved w.shells in
    let number = free_number w.shells in
    let free = carried-free moved w.shells number (free-number w.shells) in
    let there = found-carried moved w.shells k ∙ carried-runs moved (found w.shells k) shell is in
    let placed = with_begun t.course.begun number carried in
    let breaking = t.course.breaking in
    rw (own-append j (of_shell k t.log) (begun_items t.course.begun number))
    (elim (cases_eq j k) [
      | inl same ↦ rw (same, own-of_shell_same k t.log, begun-silent carried t.course.begun number k (carried_or_same moved shell) free there, append-nil t.log)
          (ap (λ o. shell_codes o (stays_at (codes_of_ended (is_done k t.frames) k t.course.parts.codes w.ended) k)) (found-left w.shells k shell moved t is)
          ∙ own-codes w k shell t all is goes)
      | inr differ ↦ rw (own-of_shell_other j k t.log (λ e. differ (sym e)))
          (let pos = runs_pos w.shells k shell is in
          rw (
            ap (λ o. shell_codes o (stays_at (codes_of_ended (is_done k t.frames) k t.course.parts.codes w.ended) j))
                (found-set_other (shells_after_break breaking placed) k (shell_after_turn k moved t) j differ pos),
            with-other (is_done k t.frames) w.ended k t.course.parts.codes j differ pos,
          )
          (ap (λ o. shell_codes o (stays_at w.ended j)) (found-broken breaking placed j)
          ∙ broken-codes (broken_for breaking j) (found placed j) (stays_at w.ended j)
          ∙ begun-codes carried t.course.begun number j (stays_at w.ended j) free
          ∙ ap (λ codes. codes_after_trace codes (own j (begun_items t.course.begun number)))
          (ap (λ o. shell_codes o (stays_at w.ended j)) (found-carried moved w.shells j) ∙ carried-codes moved (found w.shells j) (stays_at w.ended j))))
    ])

ended-codes : (w : WorldState) (k : ℕ) (shell : ShellState) → HasAllCodes w → numbered_shell w k ≡ Some shell → LeadsCodes w (shell_ended w k shell.parts.codes)
ended-codes w k shell all is = λ j.
    elim (cases_eq j k) [
      | inl same ↦ rw same
          (ap (λ o. shell_codes o (stays_at (slice_set w.ended (k - 1) shell.parts.codes) k)) (found-set_same w.shells k shell None is)
          ∙ (set-same w.shells w.ended k shell shell.parts.codes all is ∙ sym (ap (λ o. shell_codes o (stays_at w.ended k)) is)))
      | inr differ ↦
          (let pos = runs_pos w.shells k shell is in
          ap (λ o. shell_codes o (stays_at (slice_set w.ended (k - 1) shell.parts.codes) j)) (found-set_other w.shells k None j differ pos)
          ∙ ap (λ codes. shell_codes (found w.shells j) codes) (set-other w.ended k shell.parts.codes j differ pos))
    ]

applied-codes : (w : WorldState) (k : ℕ) (shell : ShellState) (now : Turning) → HasAllCodes w → numbered_shell w k ≡ Some shell →
    TurningGoes shell.parts shell.frames now → LeadsCodes w (turning_response w k shell.parts.codes now)
applied-codes w k shell (Refuses why) all is goes = tt
applied-codes w k shell Ends all is goes = ended-codes w k shell all is
applied-codes w k shell (Turned queue t) all is goes = took-codes w k shell queue t all is goes

turned-codes : (w : WorldState) (k : ℕ) (o : Option ShellState) → IsSane w → HasAllCodes w → numbered_shell w k ≡ o → LeadsCodes w (turn_response w k o)
turned-codes w k None sane all is = tt
turned-codes w k (Some shell) sane all is =
    applied-codes w k shell (flagged_turning shell.flagged (input_of w k) shell.frames (course_without_flag (start w shell)) shell.phase) all is
    (flagged-goes shell.flagged (input_of w k) shell.frames (course_without_flag (start w shell)) shell.phase (rw is at (sane.each k)))

answered-codes : (w : WorldState) (k : ℕ) (reply : Reply) (o : Option ShellState) → IsSane w → HasAllCodes w → numbered_shell w k ≡ o →
    LeadsCodes w (answer_response w k reply o)
answered-codes w k reply None sane all is = tt
answered-codes w k reply (Some shell) sane all is =
    applied-codes w k shell (turning_of_answer (input_of w k) shell.frames (start w shell) shell.phase reply) all is
    (answering-goes (input_of w k) shell.frames (start w shell) shell.phase reply (rw is at (sane.each k)))

break-codes : (w : WorldState) (k : ℕ) (kind : BreakKind) (o : Option ShellState) → LeadsCodes w (break_response w k kind o)
break-codes w k kind None = tt
break-codes w k kind (Some shell) = λ j.
    let breaking = Some (record { shell = k; breaks = kind_breaks kind }) in
    ap (λ o. shell_codes o (stays_at w.ended j)) (found-broken breaking w.shells j)
    ∙ broken-codes (broken_for breaking j) (found w.shells j) (stays_at w.ended j)

pub step-codes : (w : WorldState) (event : Event) → IsSane w → HasAllCodes w → LeadsCodes w (step_of w event)
step-codes w event sane all = of-step w (λ event response. LeadsCodes w response) (record {
  refused = λ event why. tt;
  typed = λ line. (λ j. refl);
  ended = λ j. refl;
  turned = λ k shell is. turned-codes w k (Some shell) sane all is;
  answered = λ k reply shell is. answered-codes w k reply (Some shell) sane all is;
  broken = λ k kind shell is. break-codes w k kind (Some shell);
}) event

pub after-codes : (w : WorldState) (out : Result Out Refusal) (r : Response) → LeadsCodes w r →
    (j : ℕ) → codes_at (resulting_world w out r) j ≡ codes_after_trace (codes_at w j) (own j (items_after out r))
after-codes w (Ok out) (Accepted world given items) leads j = leads j
after-codes w (Ok out) (Refused why) leads j = refl
after-codes w (Err refusal) (Accepted world given items) leads j = refl
after-codes w (Err refusal) (Refused why) leads j = refl
