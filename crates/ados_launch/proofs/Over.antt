-- If nothing is due no shell is left: a background shell that asks for nothing is ready, since its input is at its end, and
-- shell 1 is ready or wants a line.
use Rattle.std.proofs.Common.{◌≡◌, ◌≢◌, ℕ, zero, suc, ◌∷◌, List, [], Option, Some, None, true, false, not, ◌&&◌, refl, ap, sym, ◌∙◌, ◌≤◌, is_some, length, slice_get, nat_lt, arith, inl, inr, Bool}
use Rattle.std.proofs.lemmas.Bool.{cases_Bool, true≢false}
use Rattle.std.specs.List.{list_any}
use Rattle.std.proofs.lemmas.List.{length-map}
use Rattle.std.proofs.lemmas.Grind.{common_steps}
use Rattle.ados_flow.specs.Frames.{FrameState}
use Rattle.ados_machine.specs.Requests.{request_of}
use Rattle.ados_machine.specs.Children.{child_of_shell}
use Rattle.ados_machine.specs.World.{WorldState, numbered_shell, can_take, can_turn, option_flatten, has_input, input_of, is_over, request_of_shell, running_numbers, takes_input, wants_input}
use Rattle.ados_machine.specs.Shells.{ShellState}
use Rattle.ados_machine.specs.Turning.{Input}
use Rattle.ados_machine.specs.Phases.{Phase, Ready, GoingOn, Waiting}
use Rattle.ados_machine.specs.declared.phases.Wait.TheVariants.{ForAnswer, ForLines, ForStart, ForPiece, ForEnd}
use Rattle.ados_machine.proofs.MovedChildren.{over-none}
use Rattle.ados_launcher.specs.declared.calls.Call.{Call}
use Rattle.ados_launcher.specs.Lifecycles.{lifecycle_for_state}
use Rattle.ados_launch.specs.Agreement.{Agrees, AreOver}
use Rattle.ados_launch.specs.Rounds.{IsIdle}
use Rattle.ados_launch.proofs.Places.{idle-line, idle-turn, idle-pending}

-- a background shell that waits for no launcher is ready: it runs a frame, a line of it goes on, or its input is at its end
phase-ready : (k : ℕ) (frames : List FrameState) (phase : Phase) → request_of k phase ≡ None → can_take (record { queue = []; is_ended = true }) frames phase ≡ true
phase-ready k [] Ready none = refl
phase-ready k (frame ∷ frames) Ready none = refl
phase-ready k frames (GoingOn parted) none = refl
phase-ready k frames (Waiting (ForAnswer asking)) none = refl
phase-ready k frames (Waiting (ForLines gathering)) none = refl
phase-ready k frames (Waiting (ForStart starting)) none = cc
phase-ready k frames (Waiting (ForPiece child)) none = cc
phase-ready k frames (Waiting (ForEnd child)) none = cc

input-of-background : (w : WorldState) (k : ℕ) → k ≢ 1 → input_of w k ≡ record { queue = []; is_ended = true }
input-of-background w k other = grind (arith, common_steps)

idle-found : (w : WorldState) (k : ℕ) (found : Option ShellState) → k ≢ 1 → can_turn (input_of w k) found ≡ false → request_of_shell found ≡ None → found ≡ None
idle-found w k None other e none = refl
idle-found w k (Some shell) other e none =
    let ready : can_take (input_of w k) shell.frames shell.phase ≡ true =
    ap (λ input. can_take input shell.frames shell.phase) (input-of-background w k other) ∙ phase-ready shell.parts.number shell.frames shell.phase none in
    absurd (true≢false (sym ready ∙ e))

-- shell 1 is ready, or wants a line
first-phase : (input : Input) (k : ℕ) (frames : List FrameState) (phase : Phase) → request_of k phase ≡ None →
    (takes_input frames phase && not (has_input input)) ≡ false → can_take input frames phase ≡ false → ⊥
first-phase input k [] Ready none wants ready = grind (arith, common_steps)
first-phase input k (frame ∷ frames) Ready none wants ready = cc
first-phase input k frames (GoingOn parted) none wants ready = cc
first-phase input k frames (Waiting (ForAnswer asking)) none wants ready = grind (arith, common_steps)
first-phase input k frames (Waiting (ForLines gathering)) none wants ready = grind (arith, common_steps)
first-phase input k frames (Waiting (ForStart starting)) none wants ready = cc
first-phase input k frames (Waiting (ForPiece child)) none wants ready = cc
first-phase input k frames (Waiting (ForEnd child)) none wants ready = cc

first-found : (input : Input) (found : Option ShellState) → (wants_input found && not (has_input input)) ≡ false → can_turn input found ≡ false → request_of_shell found ≡ None → found ≡ None
first-found input None wants ready none = refl
first-found input (Some shell) wants ready none = absurd (first-phase input shell.parts.number shell.frames shell.phase none wants ready)

-- if nothing may come no shell is left at a number from 1 to 20
none-left : (w : WorldState) (k : ℕ) → IsIdle w → k ≤ 20 → numbered_shell w k ≡ None
none-left w zero idle h = refl
none-left w (suc zero) idle h =
    first-found (input_of w 1) (numbered_shell w 1) (idle-line w idle) (idle-turn w 1 idle (omega arith) (omega arith)) (idle-pending w 1 idle (omega arith) (omega arith))
none-left w (suc (suc k)) idle h =
    idle-found w (suc (suc k)) (numbered_shell w (suc (suc k))) (λ e. omega (arith, e)) (idle-turn w (suc (suc k)) idle (omega arith) h) (idle-pending w (suc (suc k)) idle (omega arith) h)

past-end : (shells : List (Option ShellState)) (i : ℕ) → length shells ≤ i → slice_get shells i ≡ None
past-end [] i h = refl
past-end (found ∷ shells) zero h = absurd (omega (arith, h))
past-end (found ∷ shells) (suc i) h = past-end shells i (omega (arith, h))

-- nor at any other
pub none-there : (w : WorldState) (k : ℕ) → length w.shells ≡ 20 → IsIdle w → numbered_shell w k ≡ None
none-there w zero size idle = refl
none-there w (suc i) size idle =
    elim (cases_Bool (nat_lt i 20)) [
      | inl low ↦ none-left w (suc i) idle (grind (arith, common_steps))
      | inr high ↦ ap option_flatten (past-end w.shells i (rw size (grind (arith, common_steps))))
    ]

none-any : (shells : List (Option ShellState)) → ((i : ℕ) → option_flatten (slice_get shells i) ≡ None) → list_any is_some shells ≡ false
none-any [] none = refl
none-any (None ∷ shells) none = none-any shells (λ i. none (suc i))
none-any (Some shell ∷ shells) none = let found = none 0 in cc

-- if nothing may come no shell is left
pub over : (w : WorldState) → length w.shells ≡ 20 → IsIdle w → is_over w ≡ true
over w size idle = ap not (none-any w.shells (λ i. none-there w (suc i) size idle))

-- and then each sequence of lifecycles is at its end
pub calls-over : (w : WorldState) (calls : List Call) → Agrees w calls → is_over w ≡ true → AreOver calls
calls-over w calls agrees over k = agrees k ∙ ap (λ o. lifecycle_for_state (child_of_shell o)) (over-none w k over)

-- a view of which numbers have a shell has a place for each
pub size-of : (w : WorldState) (table : List Bool) → table ≡ running_numbers w → length table ≡ 20 → length w.shells ≡ 20
size-of w table is size = sym (length-map w.shells is_some) ∙ (ap length (sym is) ∙ size)
