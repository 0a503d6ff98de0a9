-- What a break sets, and when it is used up.
use Rattle.std.proofs.Common.{◌≡◌, ◌≢◌, ◌∙◌, sym, ℕ, Bool, true, false, ◌||◌, Option, Some, None, refl, ap, inl, inr, List}
use Rattle.std.proofs.lemmas.Bool.{cases_Bool, eq-eqb, ne_eqb}
use Rattle.ados_find.specs.declared.outcomes.Breaking.{Breaking}
use Rattle.ados_find.specs.declared.outcomes.Renamed.{Renamed}
use Rattle.ados_machine.specs.declared.events.Event.TheVariants.{Turn, Break}
use Rattle.ados_machine.specs.declared.events.BreakKind.{BreakKind}
use Rattle.ados_machine.specs.declared.events.BreakKind.TheVariants.{C, D}
use Rattle.ados_machine.specs.declared.phases.Wait.TheVariants.{ForAnswer, ForLines, ForStart, ForPiece, ForEnd}
use Rattle.ados_machine.specs.Apply.{TurnResult, turn_of_completion}
use Rattle.ados_machine.specs.Breaks.{kind_breaks, broken_place, marked_in, mark_in}
use Rattle.ados_machine.specs.Broken.{flag_of_shell, may_be_marked, BreaksByCMark, BreaksByDFlag, BreaksUseUpTheFlag, CommandsUseUpTheFlag}
use Rattle.ados_machine.specs.Children.{mark_of_shell}
use Rattle.ados_machine.specs.Course.{Course, put}
use Rattle.ados_machine.specs.Laws.{is_breakable}
use Rattle.ados_machine.specs.Lines.{with_effect, put_completion}
use Rattle.ados_machine.specs.Next.{frames_at}
use Rattle.ados_machine.specs.Phases.{Phase, Ready, GoingOn, Waiting}
use Rattle.ados_machine.specs.Shells.{ShellState}
use Rattle.ados_machine.specs.Sinks.{newest_sink}
use Rattle.ados_machine.specs.Step.{Response, Refused, Accepted, shell_after_turn, moved_at_turn, turn_taken, turning_response, turn_response, break_response, start, course_without_flag, step_of}
use Rattle.ados_machine.specs.Turning.{Turning, Refuses, Ends, Turned, turning_in_phase, turning_at_break, turn_at_break}
use Rattle.ados_machine.specs.World.{WorldState, numbered_shell, is_over, input_of}
use Rattle.ados_machine.proofs.Keeps.{put-same}
use Rattle.ados_machine.proofs.PlainLemmas.{effect-turns}
use Rattle.ados_machine.proofs.Shells.{found, found-broken, found-left, left-same, found-set_same, shells_after}

-- an event of a break
abbrev BrokenBy : ℕ → BreakKind → WorldState → Response → Type 0
BrokenBy k kind w (Refused why) = Unit {0}
BrokenBy k kind w (Accepted world out items) =
    (numbered_shell world k ≡ broken_place (kind_breaks kind) (numbered_shell w k)) × ((j : ℕ) → j ≢ k → numbered_shell world j ≡ numbered_shell w j) × (shell : ShellState) × (numbered_shell w k ≡ Some shell)

broken-by : (w : WorldState) (k : ℕ) (kind : BreakKind) (o : Option ShellState) → numbered_shell w k ≡ o → BrokenBy k kind w (break_response w k kind o)
broken-by w k kind None is = tt
broken-by w k kind (Some shell) is =
    let breaking : Option Breaking = Some (record { shell = k; breaks = kind_breaks kind }) in (
      rw (eq-eqb k k refl) at (found-broken breaking w.shells k),
      (λ j differ. rw (ne_eqb k j (λ e. differ (sym e))) at (found-broken breaking w.shells j)),
      shell,
      is,
    )

step-broken : (w : WorldState) (k : ℕ) (kind : BreakKind) → BrokenBy k kind w (step_of w (Break k kind))
step-broken w k kind =
    elim (cases_Bool (is_over w)) [
      | inl e ↦ rw e tt
      | inr e ↦ rw e (broken-by w k kind (numbered_shell w k) refl)
    ]

marks : (now : Phase) → mark_in (marked_in now) ≡ may_be_marked now
marks Ready = refl
marks (GoingOn parted) = refl
marks (Waiting (ForAnswer asking)) = refl
marks (Waiting (ForLines gathering)) = refl
marks (Waiting (ForStart starting)) = refl
marks (Waiting (ForPiece child)) = refl
marks (Waiting (ForEnd child)) = refl

or-false : (b : Bool) → (b || false) ≡ b
or-false true = refl
or-false false = refl

or-true : (b : Bool) → (b || true) ≡ true
or-true true = refl
or-true false = refl

pub breaks-by-c : BreaksByCMark
breaks-by-c w k world out items is =
    let broken : BrokenBy k C w (Accepted world out items) = rw is at (step-broken w k C) in
    let shell = broken.2 in
    record {
      mark = ap mark_of_shell broken.0 ∙ rw broken.3 (marks shell.phase);
      flag = ap flag_of_shell broken.0 ∙ rw broken.3 (or-false shell.flagged);
      others = broken.1;
    }

pub breaks-by-d : BreaksByDFlag
breaks-by-d w k world out items is =
    let broken : BrokenBy k D w (Accepted world out items) = rw is at (step-broken w k D) in
    let shell = broken.2 in
    record {
      flag = ap flag_of_shell broken.0 ∙ rw broken.3 (or-true shell.flagged);
      mark = ap mark_of_shell broken.0 ∙ rw broken.3 refl;
      others = broken.1;
    }

-- what a turn leaves of its shell is flagged as its course is
left-flag : (k : ℕ) (moved : List Renamed) (t : TurnResult) (o : Option ShellState) (now : ShellState) → o ≡ shell_after_turn k moved t → o ≡ Some now → now.flagged ≡ t.course.flagged
left-flag k moved t o now left is = left-same (λ s. s.flagged) (λ moved shell. refl) k moved t now (sym left ∙ is)

pub left-flag_of : (k : ℕ) (moved : List Renamed) (t : TurnResult) → t.course.flagged ≡ false → (o : Option ShellState) → o ≡ shell_after_turn k moved t → flag_of_shell o ≡ false
left-flag_of k moved t clear None left = refl
left-flag_of k moved t clear (Some now) left = left-flag k moved t (Some now) now left refl ∙ clear

abbrev Unflagged : ℕ → Response → Type 0
Unflagged k (Refused why) = Unit {0}
Unflagged k (Accepted world out items) = flag_of_shell (numbered_shell world k) ≡ false

at_break-clears : (w : WorldState) (k : ℕ) (shell : ShellState) (turning : Turning) → numbered_shell w k ≡ Some shell →
    Unflagged k (turning_response w k shell.parts.codes (turning_at_break turning (input_of w k) shell.frames (course_without_flag (start w shell))))
at_break-clears w k shell (Refuses why) is = tt
at_break-clears w k shell Ends is = ap flag_of_shell (found-set_same w.shells k shell None is)
at_break-clears w k shell (Turned queue turned) is =
    let t = turn_at_break shell.frames (course_without_flag (start w shell)) in
    left-flag_of k (moved_at_turn w t) t refl _ (found-left w.shells k shell (moved_at_turn w t) t is)

shell-clears : (w : WorldState) (k : ℕ) (o : Option ShellState) → numbered_shell w k ≡ o → is_breakable o ≡ true → Unflagged k (turn_response w k o)
shell-clears w k None is found = absurd (never found)
  where
    never : false ≡ true → ⊥
    never e = cc
shell-clears w k (Some shell) is found =
    rw found (at_break-clears w k shell (turning_in_phase (input_of w k) shell.frames (course_without_flag (start w shell)) shell.phase) is)

step-clears : (w : WorldState) (k : ℕ) → is_breakable (numbered_shell w k) ≡ true → Unflagged k (step_of w (Turn k))
step-clears w k found =
    elim (cases_Bool (is_over w)) [
      | inl e ↦ rw e tt
      | inr e ↦ rw e (shell-clears w k (numbered_shell w k) refl found)
    ]

pub breaks-use-up : BreaksUseUpTheFlag
breaks-use-up w k world out items found is = rw is at (step-clears w k found)

-- a plain command
pub commands-use-up : CommandsUseUpTheFlag
commands-use-up w k shell line effect world out items now takes accepted there =
    let turn = effect-turns w k shell line effect takes in
    let course : Course = with_effect effect (record (course_without_flag (start w shell)) { used = turn.used }) in
    let t = turn_of_completion (put_completion line.command (put (newest_sink (frames_at shell)) effect.output effect.codes course)) (frames_at shell) in
    let same : turn_taken w k turn.queue t ≡ Accepted world out items = sym turn.does ∙ accepted in
    let shells : world.shells ≡ shells_after w.shells k (moved_at_turn w t) t = cc in
    let left : numbered_shell world k ≡ shell_after_turn k (moved_at_turn w t) t =
    ap (λ s. found s k) shells ∙ found-left w.shells k shell (moved_at_turn w t) t takes.command.takes.runs in
    left-flag k (moved_at_turn w t) t (numbered_shell world k) now left there
    ∙ put-same (λ c. c.flagged) (λ printed kept shared c. refl) (newest_sink (frames_at shell)) effect.output effect.codes course
