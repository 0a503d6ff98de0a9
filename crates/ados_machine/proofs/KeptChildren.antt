-- Events that are not answers of a launcher leave each child as it is.
use Rattle.std.proofs.Common.{◌≡◌, ◌∙◌, sym, ℕ, List, false, Option, Some, None, refl, ap, inl, inr}
use Rattle.std.proofs.lemmas.Bool.{cases_eq}
use Rattle.ados_machine.specs.Breaks.{kind_breaks}
use Rattle.ados_machine.specs.declared.events.BreakKind.{BreakKind}
use Rattle.ados_machine.specs.declared.children.ChildState.TheVariants.{Closed}
use Rattle.ados_machine.specs.declared.events.Event.{Event}
use Rattle.ados_machine.specs.Phases.{Phase}
use Rattle.ados_machine.specs.Phases as phase
use Rattle.ados_machine.specs.declared.phases.Wait.TheVariants.{ForAnswer, ForLines, ForStart, ForPiece, ForEnd}
use Rattle.ados_machine.specs.Children.{child_of_shell, child_in, is_launchers}
use Rattle.ados_machine.specs.Laws.{TurnsKeepChildren}
use Rattle.ados_machine.specs.Apply.{TurnResult}
use Rattle.ados_machine.specs.Shells.{ShellState}
use Rattle.ados_machine.specs.Step.{Response, Refused, Accepted, moved_at_turn, shell_ended, turn_taken, start, course_without_flag, turning_response, turn_response, break_response, step_of}
use Rattle.ados_machine.specs.Turning.{Turning, Refuses, Ends, Turned, flagged_turning}
use Rattle.ados_machine.specs.World.{WorldState, numbered_shell, input_of}
use Rattle.ados_machine.proofs.Shells.{broken_for, found-broken, found, found-set_same, found-set_other, found-left, runs_pos}
use Rattle.ados_machine.proofs.AskedTurns.{TurningHands, flagged-hands, flagged-refused}
use Rattle.ados_machine.proofs.CarriedChildren.{handed-asked, broken-child, others-child, left-child}
use Rattle.ados_machine.proofs.StepCases.{of-step}

-- an accepted event keeps each child
abbrev KeepsChildren : WorldState → Response → Type 0
KeepsChildren w (Refused why) = Unit {0}
KeepsChildren w (Accepted world out items) = (j : ℕ) → child_in world j ≡ child_in w j

took-keeps : (w : WorldState) (k : ℕ) (shell : ShellState) (queue : List (List ℕ)) (t : TurnResult) → numbered_shell w k ≡ Some shell → child_in w k ≡ Closed →
    TurningHands (course_without_flag (start w shell)) (Turned queue t) → KeepsChildren w (turn_taken w k queue t)
took-keeps w k shell queue t is closed hands = λ j.
    let moved = moved_at_turn w t in
    elim (cases_eq j k) [
      | inl same ↦ rw same
          (ap child_of_shell (found-left w.shells k shell moved t is)
          ∙ (left-child k moved t (handed-asked (course_without_flag (start w shell)) t.course t.phase hands) ∙ sym closed))
      | inr differ ↦ others-child w.shells k shell moved t is j differ
    ]

ended-keeps : (w : WorldState) (k : ℕ) (shell : ShellState) → numbered_shell w k ≡ Some shell → child_in w k ≡ Closed →
    KeepsChildren w (shell_ended w k shell.parts.codes)
ended-keeps w k shell is closed = λ j.
    elim (cases_eq j k) [
      | inl same ↦ rw same (ap child_of_shell (found-set_same w.shells k shell None is) ∙ sym closed)
      | inr differ ↦ ap child_of_shell (found-set_other w.shells k None j differ (runs_pos w.shells k shell is))
    ]

applied-keeps : (w : WorldState) (k : ℕ) (shell : ShellState) (event : Turning) → numbered_shell w k ≡ Some shell → child_in w k ≡ Closed →
    TurningHands (course_without_flag (start w shell)) event → KeepsChildren w (turning_response w k shell.parts.codes event)
applied-keeps w k shell (Refuses why) is closed hands = tt
applied-keeps w k shell Ends is closed hands = ended-keeps w k shell is closed
applied-keeps w k shell (Turned queue t) is closed hands = took-keeps w k shell queue t is closed hands

turn-by : (w : WorldState) (k : ℕ) (shell : ShellState) (now : Phase) → numbered_shell w k ≡ Some shell → child_in w k ≡ Closed →
    KeepsChildren w (turning_response w k shell.parts.codes (flagged_turning shell.flagged (input_of w k) shell.frames (course_without_flag (start w shell)) now))
turn-by w k shell now is closed =
    applied-keeps w k shell (flagged_turning shell.flagged (input_of w k) shell.frames (course_without_flag (start w shell)) now) is closed
    (flagged-hands shell.flagged (input_of w k) shell.frames (course_without_flag (start w shell)) now)

-- a shell that reads of a program, or waits for its end, takes no turn
by-phase : (w : WorldState) (k : ℕ) (shell : ShellState) (now : Phase) → numbered_shell w k ≡ Some shell → shell.phase ≡ now →
    KeepsChildren w (turning_response w k shell.parts.codes (flagged_turning shell.flagged (input_of w k) shell.frames (course_without_flag (start w shell)) now))
by-phase w k shell (phase.Waiting (ForStart starting)) is e = rw (flagged-refused shell.flagged (input_of w k) shell.frames (course_without_flag (start w shell)) (ForStart starting) refl) tt
by-phase w k shell (phase.Waiting (ForPiece child)) is e = rw (flagged-refused shell.flagged (input_of w k) shell.frames (course_without_flag (start w shell)) (ForPiece child) refl) tt
by-phase w k shell (phase.Waiting (ForEnd child)) is e = rw (flagged-refused shell.flagged (input_of w k) shell.frames (course_without_flag (start w shell)) (ForEnd child) refl) tt
by-phase w k shell phase.Ready is e = turn-by w k shell phase.Ready is (rw (is, e) refl)
by-phase w k shell (phase.GoingOn parted) is e = turn-by w k shell (phase.GoingOn parted) is (rw (is, e) refl)
by-phase w k shell (phase.Waiting (ForAnswer asking)) is e = turn-by w k shell (phase.Waiting (ForAnswer asking)) is (rw (is, e) refl)
by-phase w k shell (phase.Waiting (ForLines gathering)) is e = turn-by w k shell (phase.Waiting (ForLines gathering)) is (rw (is, e) refl)

turned-keeps : (w : WorldState) (k : ℕ) (o : Option ShellState) → numbered_shell w k ≡ o → KeepsChildren w (turn_response w k o)
turned-keeps w k None is = tt
turned-keeps w k (Some shell) is = by-phase w k shell shell.phase is refl

broken-keeps : (w : WorldState) (k : ℕ) (kind : BreakKind) (o : Option ShellState) → KeepsChildren w (break_response w k kind o)
broken-keeps w k kind None = tt
broken-keeps w k kind (Some shell) = λ j.
    let breaking = Some (record { shell = k; breaks = kind_breaks kind }) in
    ap child_of_shell (found-broken breaking w.shells j) ∙ broken-child (broken_for breaking j) (found w.shells j)

step-keeps : (w : WorldState) (event : Event) → is_launchers event ≡ false → KeepsChildren w (step_of w event)
step-keeps w = of-step w (λ event response. is_launchers event ≡ false → KeepsChildren w response) (record {
  refused = λ event why other. tt;
  typed = λ line other. (λ j. refl);
  ended = λ other j. refl;
  turned = λ k shell is other. turned-keeps w k (Some shell) is;
  answered = λ k reply shell is other. cc;
  broken = λ k kind shell is other. broken-keeps w k kind (Some shell);
})

pub turns-keep : TurnsKeepChildren
turns-keep w event world out items other is = rw is at (step-keeps w event other)
