-- What comes next.
use Rattle.std.proofs.Common.{◌≡◌, ℕ, suc, subst, ◌∷◌, ◌+◌, ◌<◌, ◌≤◌, List, [], Option, Some, None, Bool, true, false, not, is_some, is_none, nat_le, drop, refl, sym, ap, ◌∙◌, inl, inr, arith}
use Rattle.std.specs.Prelude.{option_map}
use Rattle.std.specs.List.{prefix_len}
use Rattle.std.proofs.lemmas.Bool.{cases_Bool}
use Rattle.std.proofs.lemmas.Grind.{common_steps}
use Rattle.ados_machine.specs.declared.events.BreakAt.{BreakAt}
use Rattle.ados_machine.specs.World.{WorldState, numbered_shell}
use Rattle.ados_launch.specs.declared.schedule.Next as found
use Rattle.ados_launch.specs.declared.schedule.Next.TheVariants.{Break as BreakFound, Due as DueFound}
use Rattle.ados_launch.specs.Rounds.{due_place, IsRunning}
use Rattle.ados_launch.specs.Schedule.{Next, AtBreak, AtLine, AtTurn, AtStart, AtFurther, IsInRound, MayCome, ScheduleState, schedule_state_after_place, breaks_left, first_due_break, is_passed, found_next, next_at, break_or_due, scheduled_next, passed_schedule_state, round_place, following_schedule_state}
use Rattle.ados_launch.proofs.Places.{after_in_round, due_below, due_comes}

-- the place of what is due at a place
pub place_at : (place : ℕ) → round_place (next_at place) ≡ place
place_at place = grind (arith, common_steps)

after-at : (s : ScheduleState) (w : WorldState) (next : Next) (place : ℕ) → next ≡ next_at place → following_schedule_state s w next ≡ schedule_state_after_place s w place
after-at s w AtLine place is = ap (schedule_state_after_place s w) (ap round_place is ∙ place_at place)
after-at s w (AtTurn shell) place is = ap (schedule_state_after_place s w) (ap round_place is ∙ place_at place)
after-at s w (AtStart shell) place is = ap (schedule_state_after_place s w) (ap round_place is ∙ place_at place)
after-at s w (AtFurther shell) place is = ap (schedule_state_after_place s w) (ap round_place is ∙ place_at place)
after-at s w (AtBreak shell kind) place is = grind (arith, common_steps)

-- the schedule goes on after what was due at a place
pub after_next : (s : ScheduleState) (w : WorldState) (place : ℕ) → following_schedule_state s w (next_at place) ≡ schedule_state_after_place s w place
after_next s w place = after-at s w (next_at place) place refl

-- the first break that is not passed over is one of a shell that runs
stays-runs : (number : ℕ) (w : WorldState) (at : BreakAt) → is_passed number w at ≡ false → nat_le at.event number ≡ true → is_some (numbered_shell w at.shell) ≡ true
stays-runs number w at off early = runs (is_some (numbered_shell w at.shell)) (rw early at off)
  where
    runs : (b : Bool) → not b ≡ false → b ≡ true
    runs true e = refl
    runs false e = cc

first-is : (number : ℕ) (at other : BreakAt) (breaks : List BreakAt) → first_due_break number (at ∷ breaks) ≡ Some other → (at ≡ other) × (nat_le at.event number ≡ true)
first-is number at other breaks e =
    elim (cases_Bool (nat_le at.event number)) [
      | inl early ↦ (let x = rw early at e in cc, early)
      | inr late ↦ (let x = rw late at e in cc)
    ]

pub first_runs : (number : ℕ) (w : WorldState) (breaks : List BreakAt) (at : BreakAt) → first_due_break number (drop (prefix_len (is_passed number w) breaks) breaks) ≡ Some at → is_some (numbered_shell w at.shell) ≡ true
first_runs number w [] at e = cc
first_runs number w (first ∷ breaks) at e =
    elim (cases_Bool (is_passed number w first)) [
      | inl over ↦
          let one : 1 + prefix_len (is_passed number w) breaks ≡ suc (prefix_len (is_passed number w) breaks) = omega arith in
          first_runs number w breaks at (subst (λ n. first_due_break number (drop n (first ∷ breaks)) ≡ Some at) one (rw over at e))
      | inr stays ↦
          let is = first-is number first at breaks (rw stays at e) in
          rw (← is.0) (stays-runs number w first stays is.1)
    ]

-- what may come is in the round
pub in-round : (w : WorldState) (next : found.Next) → MayCome w next → IsInRound next
in-round w (BreakFound at) may = tt
in-round w (DueFound due_at) may = may.0

-- if something comes next, something is due
pub record Due (s : ScheduleState) (w : WorldState) : Type 0 where
  pub place : ℕ
  pub due_is : Some place ≡ due_place s.round w

due-by : (s : ScheduleState) (w : WorldState) (f : ℕ → Next) (next : Next) (place : Option ℕ) → place ≡ due_place s.round w → option_map f place ≡ Some next → Due s w
due-by s w f next None is e = cc
due-by s w f next (Some k) is e = record { place = k; due_is = is }

pub next-running : (s : ScheduleState) (w : WorldState) (next : Next) → s.round.place ≤ 61 → scheduled_next s w ≡ Some next → IsRunning w
next-running s w next in_round e =
    let d = due-by s w (break_or_due (first_due_break (s.taken + 1) (breaks_left s w))) next (due_place s.round w) refl e in
    let low : d.place < 61 = due_below s.round d.place w in_round d.due_is in
    (d.place, omega (arith, low), due_comes s.round d.place w d.due_is)

-- the schedule keeps to its places
pub standing-in_round : (s : ScheduleState) (w : WorldState) (next : found.Next) → s.round.place ≤ 61 → IsInRound next → (following_schedule_state s w (found_next next)).round.place ≤ 61
standing-in_round s w (BreakFound at) in_round is = in_round
standing-in_round s w (DueFound due_at) in_round is = rw (after_next s w due_at.place) (after_in_round due_at.place is)

-- and counts what came
pub passed-taken : (s : ScheduleState) (next : found.Next) → (passed_schedule_state s next).taken ≡ s.taken + 1
passed-taken s (BreakFound at) = refl
passed-taken s (DueFound due_at) = refl

none-due : (f : ℕ → Next) (place : Option ℕ) → option_map f place ≡ None → place ≡ None
none-due f None e = refl
none-due f (Some k) e = cc

-- if nothing comes next, nothing is due
pub next-none : (s : ScheduleState) (w : WorldState) → scheduled_next s w ≡ None → None ≡ due_place s.round w
next-none s w e = sym (none-due (break_or_due (first_due_break (s.taken + 1) (breaks_left s w))) (due_place s.round w) e)

-- the same, by testing whether something is due
pub due-none : (place : Option ℕ) (over : Bool) → over ≡ is_none place → over ≡ true → None ≡ place
due-none None over is told = refl
due-none (Some k) over is told = cc

pub due-some : (place : Option ℕ) (over : Bool) → over ≡ is_none place → over ≡ false → (k : ℕ) × (Some k ≡ place)
due-some None over is told = cc
due-some (Some k) over is told = (k, refl)
