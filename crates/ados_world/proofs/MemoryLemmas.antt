-- A turn that goes on may need memory: it leaves something in the trace, or its shell runs on after it.
use Rattle.std.proofs.Common.{◌≡◌, ◌∙◌, ℕ, List, [], ◌∷◌, ◌++◌, Bool, true, false, not, ◌&&◌, Option, Some, None, Err, ap, refl}
use Rattle.std.specs.Prelude.{◌==◌, is_some}
use Rattle.std.proofs.Common.{inl, inr}
use Rattle.std.proofs.lemmas.Bool.{cases_eq, eq-eqb}
use Rattle.ados_find.specs.declared.outcomes.Renamed.{Renamed}
use Rattle.ados_flow.specs.Frames.{FrameState}
use Rattle.ados_machine.specs.declared.events.Event.TheVariants as event
use Rattle.ados_machine.specs.declared.refusals.Refusal.TheVariants.{NoMemory}
use Rattle.ados_machine.specs.Items.{TraceItem}
use Rattle.ados_machine.specs.FrameEnds.{IsSane, RunsFrame}
use Rattle.ados_machine.specs.Numbers.{free_number}
use Rattle.ados_machine.specs.Runs as memory
use Rattle.ados_machine.specs.Course.{shared_after_event}
use Rattle.ados_machine.specs.Runs.{IsResponse}
use Rattle.ados_machine.specs.Apply.{TurnResult}
use Rattle.ados_machine.specs.Shells.{ShellState}
use Rattle.ados_machine.specs.Stacks.{stack_of}
use Rattle.ados_machine.specs.Step.{turning_response, begun_items, codes_of_ended, is_done, shell_after_turn, moved_at_turn, of_shell, queue_after_event, start, turn_response, course_without_flag}
use Rattle.ados_machine.specs.Turning as turning
use Rattle.ados_machine.specs.World.{WorldState, has_frame, input_of, numbered_shell}
use Rattle.ados_machine.proofs.Shells.{shells_after, found, found-left}
use Rattle.ados_machine.proofs.Turnings.{TurningGoes, flagged-goes}
use Rattle.ados_machine.proofs.Turns.{Goes}
use Rattle.ados_shell.specs.Turnings.{TurnMayFailToAllocate}

-- frames with the same stack
stack-frame : (frames others : List FrameState) → stack_of frames ≡ stack_of others → has_frame others ≡ true → has_frame frames ≡ true
stack-frame [] [] e h = h
stack-frame [] (frame ∷ others) e h = cc
stack-frame (frame ∷ frames) others e h = refl

-- without an item in its trace a shell keeps its frames
silent-frames : (shell : ShellState) (t : TurnResult) → Goes shell.parts shell.frames t → t.log ≡ [] → stack_of t.frames ≡ stack_of shell.frames
silent-frames shell t goes none = ap (λ s. s.stack) (rw none at goes.follows)

runs-frame : (o : Option ShellState) (shell : ShellState) → o ≡ Some shell → RunsFrame o → has_frame shell.frames ≡ true
runs-frame None shell e h = cc
runs-frame (Some other) shell e h = (let same : other ≡ shell = cc in rw (← same) h)

-- and is not done by that
runs-on : (w : WorldState) (k : ℕ) (shell : ShellState) (t : TurnResult) → IsSane w → numbered_shell w k ≡ Some shell → Goes shell.parts shell.frames t → t.log ≡ []
    → is_done k t.frames ≡ false
runs-on w k shell t sane here goes none =
    elim (cases_eq k 1) [
      | inl first ↦ rw (eq-eqb k 1 first) refl
      | inr other ↦ (let stays : has_frame t.frames ≡ true = stack-frame t.frames shell.frames (silent-frames shell t goes none) (runs-frame (numbered_shell w k) shell here (sane.background k other)) in
          rw stays (nobody (not (k == 1))))
    ]
  where
    nobody : (b : Bool) → (b && false) ≡ false
    nobody true = refl
    nobody false = refl

left-is : (k : ℕ) (moved : List Renamed) (t : TurnResult) → is_done k t.frames ≡ false → is_some (shell_after_turn k moved t) ≡ true
left-is k moved t e = rw e refl

-- its shell is still at its place
shell-stays : (w : WorldState) (k : ℕ) (shell : ShellState) (t : TurnResult) → IsSane w → numbered_shell w k ≡ Some shell → Goes shell.parts shell.frames t → t.log ≡ []
    → is_some (found (shells_after w.shells k (moved_at_turn w t) t) k) ≡ true
shell-stays w k shell t sane here goes none =
    ap is_some (found-left w.shells k shell (moved_at_turn w t) t here) ∙ left-is k (moved_at_turn w t) t (runs-on w k shell t sane here goes none)

-- a turn after which the shell runs on may need memory
may-want : (k : ℕ) (world : WorldState) (items : List (ℕ × TraceItem)) → is_some (numbered_shell world k) ≡ true → memory.MayFailToAllocate (event.Turn k) world items
may-want k world [] e = e
may-want k world (item ∷ items) e = tt

log-wants : (k : ℕ) (world : WorldState) (all log : List TraceItem) (more : List (ℕ × TraceItem)) → all ≡ log → (all ≡ [] → is_some (numbered_shell world k) ≡ true)
    → memory.MayFailToAllocate (event.Turn k) world (of_shell k log ++ more)
log-wants k world all [] more e runs = may-want k world more (runs e)
log-wants k world all (item ∷ log) more e runs = tt

-- the world after a turn
abbrev after : WorldState → ℕ → List (List ℕ) → TurnResult → WorldState
after w k rest t = record w {
  shells = shells_after w.shells k (moved_at_turn w t) t;
  ended = codes_of_ended (is_done k t.frames) k t.course.parts.codes w.ended;
  queue = queue_after_event k w.queue rest;
  shared = shared_after_event t.course;
}

wants : (w : WorldState) (k : ℕ) (shell : ShellState) (turning : turning.Turning) → IsSane w → numbered_shell w k ≡ Some shell
    → TurningGoes shell.parts shell.frames turning → TurnMayFailToAllocate turning → IsResponse (event.Turn k) (Err NoMemory) (turning_response w k shell.parts.codes turning)
wants w k shell (turning.Refuses why) sane here goes m = absurd m
wants w k shell turning.Ends sane here goes m = absurd m
wants w k shell (turning.Turned rest t) sane here goes m =
    log-wants k (after w k rest t) t.log t.log (begun_items t.course.begun (free_number w.shells)) refl (shell-stays w k shell t sane here goes)

-- a turn that was accepted may need memory
pub turn-may : (w : WorldState) (k : ℕ) (shell : ShellState) → IsSane w → numbered_shell w k ≡ Some shell
    → TurnMayFailToAllocate (turning.flagged_turning shell.flagged (input_of w k) shell.frames (course_without_flag (start w shell)) shell.phase)
    → IsResponse (event.Turn k) (Err NoMemory) (turn_response w k (Some shell))
turn-may w k shell sane here m =
    let course = course_without_flag (start w shell) in
    wants w k shell (turning.flagged_turning shell.flagged (input_of w k) shell.frames course shell.phase) sane here
    (flagged-goes shell.flagged (input_of w k) shell.frames course shell.phase (rw here at (sane.each k))) m
