-- The lines after the first stay as they are while the first is taken.
use Rattle.std.proofs.Common.{◌≡◌, ◌≢◌, ◌∙◌, ℕ, List, [], ◌∷◌, ◌++◌, Bool, true, ◌&&◌, Option, Some, None, refl, ap, inl, inr}
use Rattle.std.proofs.lemmas.Bool.{cases_Bool, cases_eq, ne_eqb}
use Rattle.ados_find.specs.declared.codes.Codes.{Codes}
use Rattle.ados_flow.specs.Frames.{FrameState}
use Rattle.ados_machine.specs.Phases.{Phase, Ready, GoingOn, Waiting}
use Rattle.ados_machine.specs.declared.phases.Wait.TheVariants.{ForAnswer, ForLines, ForStart, ForPiece, ForEnd}
use Rattle.ados_machine.specs.Breaks.{has_script}
use Rattle.ados_machine.specs.Course.{Course}
use Rattle.ados_machine.specs.Shells.{ShellState}
use Rattle.ados_machine.specs.Step.{start, course_without_flag, turning_response, turn_response}
use Rattle.ados_machine.specs.Turning.{Input, Turning, Refuses, Ends, Turned, turning_in_phase, turning_at_break, flagged_turning}
use Rattle.ados_machine.specs.World.{WorldState, numbered_shell, is_over}
use Rattle.ados_machine.specs.Given.{with_lines_waiting, FurtherLinesWait}

abbrev leaving : List (List ℕ) → Turning → Turning
leaving lines (Refuses why) = Refuses why
leaving lines Ends = Ends
leaving lines (Turned queue t) = Turned (queue ++ lines) t

abbrev input_with : List (List ℕ) → Bool → Input
input_with queue is_ended = record { queue = queue; is_ended = is_ended }

turning-leaves : (line : List ℕ) (lines : List (List ℕ)) (is_ended : Bool) (frames : List FrameState) (course : Course) (now : Phase) →
    turning_in_phase (input_with (line ∷ lines) is_ended) frames course now ≡ leaving lines (turning_in_phase (input_with (line ∷ []) is_ended) frames course now)
turning-leaves line lines is_ended [] course Ready = refl
turning-leaves line lines is_ended (frame ∷ frames) course Ready = refl
turning-leaves line lines is_ended frames course (GoingOn parted) = refl
turning-leaves line lines is_ended frames course (Waiting (ForAnswer asking)) = refl
turning-leaves line lines is_ended frames course (Waiting (ForLines gathering)) = refl
turning-leaves line lines is_ended frames course (Waiting (ForStart starting)) = refl
turning-leaves line lines is_ended frames course (Waiting (ForPiece child)) = refl
turning-leaves line lines is_ended frames course (Waiting (ForEnd child)) = refl

in_place-leaves : (line : List ℕ) (lines : List (List ℕ)) (is_ended : Bool) (frames : List FrameState) (course : Course) (now : Turning) →
    turning_at_break (leaving lines now) (input_with (line ∷ lines) is_ended) frames course
    ≡ leaving lines (turning_at_break now (input_with (line ∷ []) is_ended) frames course)
in_place-leaves line lines is_ended frames course (Refuses why) = refl
in_place-leaves line lines is_ended frames course Ends = refl
in_place-leaves line lines is_ended frames course (Turned queue t) = refl

flagged-leaves : (line : List ℕ) (lines : List (List ℕ)) (flagged is_ended : Bool) (frames : List FrameState) (course : Course) (now : Phase) →
    flagged_turning flagged (input_with (line ∷ lines) is_ended) frames course now
    ≡ leaving lines (flagged_turning flagged (input_with (line ∷ []) is_ended) frames course now)
flagged-leaves line lines flagged is_ended frames course now =
    elim (cases_Bool (flagged && has_script frames)) [
      | inl e ↦ rw e
          (ap (λ (t : Turning). turning_at_break t (input_with (line ∷ lines) is_ended) frames course) (turning-leaves line lines is_ended frames course now)
          ∙ in_place-leaves line lines is_ended frames course (turning_in_phase (input_with (line ∷ []) is_ended) frames course now))
      | inr e ↦ rw e (turning-leaves line lines is_ended frames course now)
    ]

abbrev with_lines : WorldState → List (List ℕ) → WorldState
with_lines w queue = record w { queue = queue }

first-leaves : (w : WorldState) (line : List ℕ) (lines : List (List ℕ)) (codes : Codes) (now : Turning) →
    turning_response (with_lines w (line ∷ lines)) 1 codes (leaving lines now) ≡ with_lines_waiting lines (turning_response (with_lines w (line ∷ [])) 1 codes now)
first-leaves w line lines codes (Refuses why) = refl
first-leaves w line lines codes Ends = refl
first-leaves w line lines codes (Turned queue t) = refl

other-leaves : (w : WorldState) (k : ℕ) (line : List ℕ) (lines : List (List ℕ)) (codes : Codes) (now : Turning) → k ≢ 1 →
    turning_response (with_lines w (line ∷ lines)) k codes now ≡ with_lines_waiting lines (turning_response (with_lines w (line ∷ [])) k codes now)
other-leaves w k line lines codes (Refuses why) ne = refl
other-leaves w k line lines codes Ends ne = refl
other-leaves w k line lines codes (Turned queue t) ne = rw (ne_eqb k 1 ne) refl

first-waits : (w : WorldState) (line : List ℕ) (lines : List (List ℕ)) (o : Option ShellState) →
    turn_response (with_lines w (line ∷ lines)) 1 o ≡ with_lines_waiting lines (turn_response (with_lines w (line ∷ [])) 1 o)
first-waits w line lines None = refl
first-waits w line lines (Some shell) =
    rw (flagged-leaves line lines shell.flagged w.input_ended shell.frames (course_without_flag (start w shell)) shell.phase)
    (first-leaves w line lines shell.parts.codes
    (flagged_turning shell.flagged (input_with (line ∷ []) w.input_ended) shell.frames (course_without_flag (start w shell)) shell.phase))

other-waits : (w : WorldState) (k : ℕ) (line : List ℕ) (lines : List (List ℕ)) (o : Option ShellState) → k ≢ 1 →
    turn_response (with_lines w (line ∷ lines)) k o ≡ with_lines_waiting lines (turn_response (with_lines w (line ∷ [])) k o)
other-waits w k line lines None ne = refl
other-waits w k line lines (Some shell) ne =
    rw (ne_eqb k 1 ne)
    (other-leaves w k line lines shell.parts.codes
    (flagged_turning shell.flagged (input_with [] true) shell.frames (course_without_flag (start w shell)) shell.phase) ne)

pub further-lines-wait : FurtherLinesWait
further-lines-wait w k line lines =
    elim (cases_Bool (is_over w)) [
      | inl e ↦ rw e refl
      | inr e ↦ rw e (elim (cases_eq k 1) [
        | inl same ↦ rw same (first-waits w line lines (numbered_shell w 1))
        | inr differ ↦ other-waits w k line lines (numbered_shell w k) differ
      ])
    ]
