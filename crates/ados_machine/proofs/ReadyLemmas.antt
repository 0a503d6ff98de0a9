-- A turn is accepted exactly if its shell is ready.
use Rattle.std.proofs.Common.{◌≡◌, ◌∙◌, sym, ℕ, suc, List, [], ◌∷◌, Bool, true, false, ◌||◌, ◌&&◌, Option, Some, None, length, refl, ap, arith, inl, inr}
use Rattle.std.specs.Prelude.{nat_lt}
use Rattle.std.proofs.lemmas.Bool.{cases_Bool, lt-ltb}
use Rattle.ados_find.specs.declared.codes.Codes.{Codes}
use Rattle.ados_flow.specs.Frames.{FrameState}
use Rattle.ados_machine.specs.Phases.{Phase, Ready}
use Rattle.ados_machine.specs.Breaks.{has_script}
use Rattle.ados_machine.specs.Course.{Course}
use Rattle.ados_machine.specs.Completions.{Completion}
use Rattle.ados_machine.specs.Shells.{ShellState}
use Rattle.ados_machine.specs.Step.{is_accepted, start, course_without_flag, turning_response, turn_response}
use Rattle.ados_machine.specs.Turning.{Input, Turning, Refuses, Ends, Turned, console_turning, input_turning, ready_turning, turning_in_phase, turning_at_break, flagged_turning}
use Rattle.ados_machine.specs.World.{WorldState, numbered_shell, is_over, input_of, can_take, can_turn}
use Rattle.ados_machine.specs.Given.{ReadyShellsAreTurned}
use Rattle.ados_machine.proofs.MovedChildren.{over-none}
use Rattle.ados_machine.proofs.TurnCases.{each-turning}

abbrev accepts : Turning → Bool
accepts (Refuses why) = false
accepts Ends = true
accepts (Turned queue t) = true

applied-accepted : (w : WorldState) (k : ℕ) (codes : Codes) (now : Turning) → is_accepted (turning_response w k codes now) ≡ accepts now
applied-accepted w k codes (Refuses why) = refl
applied-accepted w k codes Ends = refl
applied-accepted w k codes (Turned queue t) = refl

some-waits : (n : ℕ) → nat_lt 0 (suc n) ≡ true
some-waits n = lt-ltb 0 (suc n) (omega arith)

console-accepts : (queue : List (List ℕ)) (is_ended : Bool) (course : Course) →
    accepts (console_turning queue is_ended course) ≡ (nat_lt 0 (length queue) || is_ended)
console-accepts [] true course = refl
console-accepts [] false course = refl
console-accepts (line ∷ rest) is_ended course = rw (some-waits (length rest)) refl

input-accepts : (queue : List (List ℕ)) (is_ended : Bool) (frames : List FrameState) (by_line : List ℕ → Completion) (by_end : Completion) →
    accepts (input_turning queue is_ended frames by_line by_end) ≡ (nat_lt 0 (length queue) || is_ended)
input-accepts [] true frames by_line by_end = refl
input-accepts [] false frames by_line by_end = refl
input-accepts (line ∷ rest) is_ended frames by_line by_end = rw (some-waits (length rest)) refl

ready-accepts : (input : Input) (frames : List FrameState) (course : Course) → accepts (ready_turning input frames course) ≡ can_take input frames Ready
ready-accepts input [] course = console-accepts input.queue input.is_ended course
ready-accepts input (frame ∷ frames) course = refl

turning-accepts : (input : Input) (frames : List FrameState) (course : Course) (now : Phase) →
    accepts (turning_in_phase input frames course now) ≡ can_take input frames now
turning-accepts input frames course =
    each-turning (λ now turning. accepts turning ≡ can_take input frames now) input frames course (ready-accepts input frames course) (λ parted completion. refl)
    (λ asking. input-accepts input.queue input.is_ended frames) (λ gathering. input-accepts input.queue input.is_ended frames) (λ starting. refl) (λ child. refl) (λ child. refl)

in_place-accepts : (now : Turning) (input : Input) (frames : List FrameState) (course : Course) →
    accepts (turning_at_break now input frames course) ≡ accepts now
in_place-accepts (Refuses why) input frames course = refl
in_place-accepts Ends input frames course = refl
in_place-accepts (Turned queue t) input frames course = refl

flagged-accepts : (flagged : Bool) (input : Input) (frames : List FrameState) (course : Course) (now : Phase) →
    accepts (flagged_turning flagged input frames course now) ≡ can_take input frames now
flagged-accepts flagged input frames course now =
    elim (cases_Bool (flagged && has_script frames)) [
      | inl e ↦ rw e (in_place-accepts (turning_in_phase input frames course now) input frames course ∙ turning-accepts input frames course now)
      | inr e ↦ rw e (turning-accepts input frames course now)
    ]

shell-accepts : (w : WorldState) (k : ℕ) (o : Option ShellState) → is_accepted (turn_response w k o) ≡ can_turn (input_of w k) o
shell-accepts w k None = refl
shell-accepts w k (Some shell) =
    applied-accepted w k shell.parts.codes (flagged_turning shell.flagged (input_of w k) shell.frames (course_without_flag (start w shell)) shell.phase)
    ∙ flagged-accepts shell.flagged (input_of w k) shell.frames (course_without_flag (start w shell)) shell.phase

pub ready-turned : ReadyShellsAreTurned
ready-turned w k =
    elim (cases_Bool (is_over w)) [
      | inl e ↦ rw e (sym (ap (can_turn (input_of w k)) (over-none w k e)))
      | inr e ↦ rw e (shell-accepts w k (numbered_shell w k))
    ]
