-- An answer of a launcher moves the child of its shell, and no other.
use Rattle.std.proofs.Common.{◌≡◌, ◌≢◌, ◌∙◌, sym, ℕ, zero, suc, List, [], ◌∷◌, Bool, true, false, not, Option, Some, None, Result, Ok, Err, is_some, slice_get, refl, ap, inl, inr}
use Rattle.std.specs.List.{list_any}
use Rattle.std.proofs.lemmas.Bool.{cases_eq, cases_Bool, ne_eqb}
use Rattle.ados_text.specs.Text.{Bytes}
use Rattle.ados_text.specs.declared.codes.Result2.{Result2}
use Rattle.ados_find.specs.declared.codes.Codes.{Codes}
use Rattle.ados_find.specs.declared.outcomes.Renamed.{Renamed}
use Rattle.ados_machine.specs.Breaks.{mark_while, mark_in}
use Rattle.ados_flow.specs.Frames.{FrameState}
use Rattle.ados_machine.specs.declared.answers.Answer.{Answer as Reply}
use Rattle.ados_machine.specs.declared.answers.Answer.TheVariants.{Started, NotFound, Denied, Memory, Other, «Bytes» as Piece, End, PipeFault, Exit, Signal, WaitFault}
use Rattle.ados_machine.specs.declared.children.ChildState.{ChildState}
use Rattle.ados_machine.specs.declared.children.ChildState.TheVariants.{Closed}
use Rattle.ados_machine.specs.declared.events.Event.TheVariants.{Answer}
use Rattle.ados_machine.specs.declared.phases.Child.{Child}
use Rattle.ados_machine.specs.Phases.{Phase}
use Rattle.ados_machine.specs.Phases as phase
use Rattle.ados_machine.specs.declared.phases.Starting.{Starting}
use Rattle.ados_machine.specs.declared.phases.Wait.{Wait}
use Rattle.ados_machine.specs.declared.phases.Wait.TheVariants.{ForStart, ForPiece, ForEnd}
use Rattle.ados_machine.specs.declared.requests.Request.{Request}
use Rattle.ados_machine.specs.Answers.{next_wait, with_break, child_after_piece, child_of, started_completion, piece_completion, is_piece, ended_completion, answered_completion, answered_in}
use Rattle.ados_machine.specs.Children.{read_unless, mark_of_shell, is_marked, fits, child_after_answer, child_while, child_of_shell, child_in}
use Rattle.ados_machine.specs.Course.{Course}
use Rattle.ados_machine.specs.Completions.{Completion, Passes, Answers, Jumps, Calls, Ticks, Waits}
use Rattle.ados_machine.specs.Laws.{AnswersMoveChildren}
use Rattle.ados_machine.specs.FrameEnds.{RunsFrame}
use Rattle.ados_machine.specs.Opening.{OpenedOutput, line_output}
use Rattle.ados_machine.specs.Requests.{request_while, request_of}
use Rattle.ados_machine.specs.Apply.{turn_by_rule, frames_at_line, rule_state_of, turn_of_completion}
use Rattle.ados_machine.specs.CodeRule.{RuleResult}
use Rattle.ados_machine.specs.Shells.{ShellState}
use Rattle.ados_machine.specs.Sinks.{Sink, newest_sink}
use Rattle.ados_machine.specs.Step.{Response, Refused, Accepted, shell_of_turn, is_done, shell_after_turn, moved_at_turn, start, turning_response, answer_response, step_of}
use Rattle.ados_machine.specs.Turning.{turning_of_completion}
use Rattle.ados_machine.specs.World.{WorldState, option_flatten, numbered_shell, is_over, input_of, request_of_shell, pending_of}
use Rattle.ados_machine.proofs.Shells.{found-left}
use Rattle.ados_machine.proofs.Marks.{break-same, next-same, piece-same}
use Rattle.ados_machine.proofs.Rests.{Rests, passed-rests, finished-rests, called-rests, ticked-rests}
use Rattle.ados_machine.proofs.CarriedChildren.{same_some, idle-asked, carried_by-child, others-pending, others-child, left-child}

-- the child of a shell after a completion
abbrev child_after : Completion → ChildState
child_after (Waits wait course) = child_while wait
child_after completion = Closed

-- what an answer does: it is taken exactly if it is of the kind that was asked for, and its completion moves the child
abbrev MovesBy : Bool → Option Request → Reply → Option Completion → Type 0
MovesBy marked None answer completion = completion ≡ None
MovesBy marked (Some request) answer None = fits request answer ≡ false
MovesBy marked (Some request) answer (Some completion) = (fits request answer ≡ true) × (child_after completion ≡ child_after_answer marked request answer)

next-while : (child : Child) → child_while (next_wait child) ≡ read_unless child.marked
next-while child = next-same child_while child (read_unless child.marked) (λ e. rw e refl) (λ e. rw e refl)

break-marked : (child : Child) → (with_break child).marked ≡ child.marked
break-marked child = break-same (λ c. c.marked) child (λ fault. refl)

piece-marked : (child : Child) (fault : Option Result2) → (child_after_piece child fault).marked ≡ child.marked
piece-marked child fault = piece-same (λ c. c.marked) child fault (λ fault. refl)

started-moves : (starting : Starting) (course : Course) (opened : Result OpenedOutput Result2) →
    child_after (started_completion starting course opened) ≡ read_unless starting.marked
started-moves starting course (Err fault) = next-while (child_of starting None (Some fault))
started-moves starting course (Ok opened) = next-while (child_of starting opened.target None)

piece-moves : (child : Child) (bytes : Bytes) (sink : Sink) (course : Course) (fault : Option Result2) →
    child_after (piece_completion child bytes sink course fault) ≡ read_unless child.marked
piece-moves child bytes sink course (Some fault) = next-while (with_break child) ∙ ap read_unless (break-marked child)
piece-moves child bytes sink course None =
    next-while (child_after_piece (with_break child) _) ∙ ap read_unless (piece-marked (with_break child) _ ∙ break-marked child)

ended-moves : (child : Child) (codes : Codes) (course : Course) (fault : Option Result2) → child_after (ended_completion child codes course fault) ≡ Closed
ended-moves child codes course (Some fault) = refl
ended-moves child codes course None = refl

wait-moves : (n : ℕ) (sink : Sink) (course : Course) (wait : Wait) (answer : Reply) →
    MovesBy (mark_while wait) (request_while n wait) answer (answered_completion sink course wait answer)
wait-moves n sink course (ForStart starting) Started = (refl, started-moves starting course (line_output course starting.output))
wait-moves n sink course (ForStart starting) NotFound = (refl, refl)
wait-moves n sink course (ForStart starting) Denied = (refl, refl)
wait-moves n sink course (ForStart starting) Memory = (refl, refl)
wait-moves n sink course (ForStart starting) Other = (refl, refl)
wait-moves n sink course (ForPiece child) (Piece bytes) =
    elim (cases_Bool (is_piece bytes)) [
      | inl e ↦ rw e (e, piece-moves child bytes sink course child.fault)
      | inr e ↦ rw e e
    ]
wait-moves n sink course (ForPiece child) End = (refl, refl)
wait-moves n sink course (ForPiece child) PipeFault = (refl, refl)
wait-moves n sink course (ForEnd child) (Exit status) = (refl, ended-moves child _ course child.fault)
wait-moves n sink course (ForEnd child) Signal = (refl, ended-moves child _ course child.fault)
wait-moves n sink course (ForEnd child) WaitFault = (refl, ended-moves child _ course child.fault)
wait-moves n sink course wait answer = refl

phase-moves : (n : ℕ) (sink : Sink) (course : Course) (now : Phase) (answer : Reply) → MovesBy (mark_in now) (request_of n now) answer (answered_in sink course now answer)
phase-moves n sink course phase.Ready answer = refl
phase-moves n sink course (phase.GoingOn parted) answer = refl
phase-moves n sink course (phase.Waiting wait) answer = wait-moves n sink course wait answer

-- a completion leaves its shell with the child after it; a shell that waits runs on
waits-child : (k : ℕ) (moved : List Renamed) (wait : Wait) (course : Course) (frames : List FrameState) → is_done k frames ≡ false →
    child_of_shell (shell_after_turn k moved (turn_of_completion (Waits wait course) frames)) ≡ child_while wait
waits-child k moved wait course frames runs =
    rw (runs, carried_by-child moved (shell_of_turn (turn_of_completion (Waits wait course) frames))) refl

rests-child : (k : ℕ) (moved : List Renamed) (course : Course) (settled : RuleResult) → Rests (rule_state_of course) settled →
    child_of_shell (shell_after_turn k moved (turn_by_rule course settled)) ≡ Closed
rests-child k moved course settled rests = left-child k moved (turn_by_rule course settled) (idle-asked settled.phase rests.idle)

settled-child : (k : ℕ) (moved : List Renamed) (completion : Completion) (frames : List FrameState) → is_done k frames ≡ false →
    child_of_shell (shell_after_turn k moved (turn_of_completion completion frames)) ≡ child_after completion
settled-child k moved (Passes course) frames runs = rests-child k moved course _ (passed-rests frames (rule_state_of course))
settled-child k moved (Answers word answer quits course) frames runs =
    rests-child k moved course _ (finished-rests word answer quits frames (rule_state_of course))
settled-child k moved (Jumps word answer line course) frames runs =
    rests-child k moved course _ (finished-rests word answer false (frames_at_line line frames) (rule_state_of course))
settled-child k moved (Calls word output script course) frames runs =
    rests-child k moved course _ (called-rests word output script frames (rule_state_of course))
settled-child k moved (Ticks before command after course) frames runs =
    rests-child k moved course _ (ticked-rests before command after frames (rule_state_of course))
settled-child k moved (Waits wait course) frames runs = waits-child k moved wait course frames runs

-- what an accepted answer moves, if each background shell that is there runs a frame
pub record Moved (k : ℕ) (request : Request) (answer : Reply) (w world : WorldState) : Type 0 where
  own : (k ≢ 1 → RunsFrame (numbered_shell w k)) → child_in world k ≡ child_after_answer (is_marked w k) request answer
  others : (j : ℕ) → j ≢ k → pending_of world j ≡ pending_of w j
  children : (j : ℕ) → j ≢ k → child_in world j ≡ child_in w j

-- what an answer does in the world, by what was asked for
abbrev pub Responds : WorldState → ℕ → Reply → Option Request → Response → Type 0
Responds w k answer o (Refused why) = (request : Request) → o ≡ Some request → fits request answer ≡ false
Responds w k answer None (Accepted world out items) = ⊥
Responds w k answer (Some request) (Accepted world out items) = (fits request answer ≡ true) × Moved k request answer w world

runs-done : (k : ℕ) (shell : ShellState) → (k ≢ 1 → RunsFrame (Some shell)) → is_done k shell.frames ≡ false
runs-done k shell runs =
    elim (cases_eq k 1) [
      | inl same ↦ rw same refl
      | inr differ ↦ rw (ne_eqb k 1 differ, runs differ) refl
    ]

completion-responds : (w : WorldState) (k : ℕ) (shell : ShellState) (answer : Reply) (o : Option Request) (completion : Option Completion) → numbered_shell w k ≡ Some shell →
    MovesBy (mark_in shell.phase) o answer completion → Responds w k answer o (turning_response w k shell.parts.codes (turning_of_completion (input_of w k) shell.frames completion))
completion-responds w k shell answer None None is moves = λ request e. cc
completion-responds w k shell answer None (Some completion) is moves = cc
completion-responds w k shell answer (Some request) None is moves = λ other e. rw (same_some e) at moves
completion-responds w k shell answer (Some request) (Some completion) is moves =
    let t = turn_of_completion completion shell.frames in
    let moved = moved_at_turn w t in (
      moves.0,
      record {
        own = λ runs.
            ap child_of_shell (found-left w.shells k shell moved t is)
            ∙ (settled-child k moved completion shell.frames (runs-done k shell (rw is at runs)) ∙ (moves.1 ∙ ap (λ m. child_after_answer m request answer) (sym (ap mark_of_shell is))));
        others = others-pending w.shells k shell moved t is;
        children = others-child w.shells k shell moved t is;
      },
    )

shell-responds : (w : WorldState) (k : ℕ) (answer : Reply) (o : Option ShellState) → numbered_shell w k ≡ o →
    Responds w k answer (request_of_shell o) (answer_response w k answer o)
shell-responds w k answer None is = λ request e. cc
shell-responds w k answer (Some shell) is =
    completion-responds w k shell answer (request_of shell.parts.number shell.phase) (answered_in (newest_sink shell.frames) (start w shell) shell.phase answer) is
    (phase-moves shell.parts.number (newest_sink shell.frames) (start w shell) shell.phase answer)

-- if no shell is left there is none at any number
none-left : (shells : List (Option ShellState)) (i : ℕ) → list_any is_some shells ≡ false → option_flatten (slice_get shells i) ≡ None
none-left [] zero e = refl
none-left [] (suc i) e = refl
none-left (Some shell ∷ shells) i e = cc
none-left (None ∷ shells) zero e = refl
none-left (None ∷ shells) (suc i) e = none-left shells i e

pub over-none : (w : WorldState) (k : ℕ) → is_over w ≡ true → numbered_shell w k ≡ None
over-none w zero e = refl
over-none w (suc i) e = none-left w.shells i (opposite (list_any is_some w.shells) e)
  where
    opposite : (b : Bool) → not b ≡ true → b ≡ false
    opposite true h = cc
    opposite false h = refl

pub step-responds : (w : WorldState) (k : ℕ) (answer : Reply) → Responds w k answer (pending_of w k) (step_of w (Answer k answer))
step-responds w k answer =
    elim (cases_Bool (is_over w)) [
      | inl e ↦ rw e (λ request asked. absurd (never request (sym (ap request_of_shell (over-none w k e)) ∙ asked)))
      | inr e ↦ rw e (shell-responds w k answer (numbered_shell w k) refl)
    ]
  where
    never : (request : Request) → None ≡ Some request → ⊥
    never request f = cc

pub answers-move : AnswersMoveChildren
answers-move w k request answer world out items sane asked is =
    let responds = rw (asked, is) at (step-responds w k answer) in
    record { own = responds.1.own (sane.background k); others = responds.1.others; children = responds.1.children }
