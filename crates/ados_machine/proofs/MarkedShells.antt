-- A break changes neither which turns are accepted nor which shells want a line.
use Rattle.std.proofs.Common.{◌≡◌, ◌∙◌, ap, ℕ, ◌&&◌, not, Option, Some, None, refl, inl, inr}
use Rattle.std.proofs.lemmas.Bool.{cases_Bool}
use Rattle.ados_machine.specs.declared.events.Event.TheVariants.{Break}
use Rattle.ados_machine.specs.declared.events.BreakKind as by
use Rattle.ados_machine.specs.Breaks.{kind_breaks}
use Rattle.ados_find.specs.declared.outcomes.Breaks.{Breaks}
use Rattle.ados_machine.specs.Laws.{KeepsWhatComes, BreaksKeepWhatComes}
use Rattle.ados_machine.specs.Shells.{ShellState}
use Rattle.ados_machine.specs.Step.{Response, Refused, Accepted, break_response, step_of}
use Rattle.ados_machine.specs.Turning.{Input}
use Rattle.ados_machine.specs.World.{WorldState, can_take, can_turn, has_input, numbered_shell, is_over, input_of, request_of_shell, takes_input, wants_input}
use Rattle.ados_machine.proofs.CarriedChildren.{broken-pending}
use Rattle.ados_machine.proofs.Marks.{marked-same}
use Rattle.ados_machine.proofs.Shells.{broken-same, found, broken_maybe, broken_for, found-broken}

broken-turns : (input : Input) (breaks : Option Breaks) (o : Option ShellState) → can_turn input (broken_maybe breaks o) ≡ can_turn input o
broken-turns input = broken-same (can_turn input) (λ breaks shell. marked-same (can_take input shell.frames) (λ starting. refl) (λ child. refl) breaks.marks shell.phase)

broken-wants : (breaks : Option Breaks) (o : Option ShellState) → wants_input (broken_maybe breaks o) ≡ wants_input o
broken-wants = broken-same wants_input (λ breaks shell. marked-same (takes_input shell.frames) (λ starting. refl) (λ child. refl) breaks.marks shell.phase)

abbrev KeepsBy : WorldState → Response → Type 0
KeepsBy w (Refused why) = Unit {0}
KeepsBy w (Accepted world out items) = KeepsWhatComes w world

broken-keeps : (w : WorldState) (k : ℕ) (kind : by.BreakKind) (o : Option ShellState) → KeepsBy w (break_response w k kind o)
broken-keeps w k kind None = tt
broken-keeps w k kind (Some shell) =
    let breaking = Some (record { shell = k; breaks = kind_breaks kind }) in
    record {
      ready = λ j. ap (can_turn (input_of w j)) (found-broken breaking w.shells j) ∙ broken-turns (input_of w j) (broken_for breaking j) (found w.shells j);
      asked = λ j. ap request_of_shell (found-broken breaking w.shells j) ∙ broken-pending (broken_for breaking j) (found w.shells j);
      line = ap (λ b. b && not (has_input (input_of w 1)))
          (ap wants_input (found-broken breaking w.shells 1) ∙ broken-wants (broken_for breaking 1) (found w.shells 1));
    }

step-keeps : (w : WorldState) (k : ℕ) (kind : by.BreakKind) → KeepsBy w (step_of w (Break k kind))
step-keeps w k kind =
    elim (cases_Bool (is_over w)) [
      | inl e ↦ rw e tt
      | inr e ↦ rw e (broken-keeps w k kind (numbered_shell w k))
    ]

pub breaks-keep : BreaksKeepWhatComes
breaks-keep w k kind world out items is = rw is at (step-keeps w k kind)
