-- What comes next in a session, and what it asks of the launcher.
use Rattle.std.proofs.Common.{◌≡◌, ℕ, ◌+◌, ◌<◌, ◌≤◌, ◌-◌, Option, Some, None, is_some, nat_lt, if◌then◌else◌, refl, sym, ◌∙◌, arith}
use Rattle.std.specs.Prelude.{option_map}
use Rattle.std.proofs.lemmas.Grind.{common_steps}
use Rattle.ados_machine.specs.declared.events.BreakAt.{BreakAt}
use Rattle.ados_machine.specs.World.{WorldState, pending_of}
use Rattle.ados_launch.specs.Rounds.{due_place}
use Rattle.ados_launch.specs.Schedule.{ScheduleState, breaks_left, first_due_break, next_at, break_or_due, scheduled_next, place_due, unless_break}
use Rattle.ados_launch.specs.Steps.{next_request}

due-none : (f : Option BreakAt) (d : Option ℕ) → (if is_some f then None else d) ≡ None → unless_break (option_map (break_or_due f) d) ≡ None
due-none None None e = refl
due-none None (Some k) e = cc
due-none (Some at) None e = refl
due-none (Some at) (Some k) e = refl

-- what is due at a place is no break
unbroken : (k : ℕ) → unless_break (Some (next_at k)) ≡ Some (next_at k)
unbroken k = grind (arith, common_steps)

due-some : (f : Option BreakAt) (d : Option ℕ) (k : ℕ) → (if is_some f then None else d) ≡ Some k → unless_break (option_map (break_or_due f) d) ≡ Some (next_at k)
due-some None None k e = cc
due-some None (Some j) k e = (let same : j ≡ k = cc in rw same (unbroken k))
due-some (Some at) d k e = cc

-- nothing is due, or a break comes first
pub next_none : (s : ScheduleState) (w : WorldState) → None ≡ place_due s w → None ≡ unless_break (scheduled_next s w)
next_none s w e = sym (due-none (first_due_break (s.taken + 1) (breaks_left s w)) (due_place s.round w) (sym e))

pub next_some : (s : ScheduleState) (w : WorldState) (k : ℕ) → Some k ≡ place_due s w → Some (next_at k) ≡ unless_break (scheduled_next s w)
next_some s w k e = sym (due-some (first_due_break (s.taken + 1) (breaks_left s w)) (due_place s.round w) k (sym e))

at-none : (w : WorldState) (f : Option BreakAt) (d : Option ℕ) → (if is_some f then None else d) ≡ None → next_request w (option_map (break_or_due f) d) ≡ None
at-none w None None e = refl
at-none w None (Some k) e = cc
at-none w (Some at) None e = refl
at-none w (Some at) (Some k) e = refl

at-some : (w : WorldState) (f : Option BreakAt) (d : Option ℕ) (k : ℕ) → (if is_some f then None else d) ≡ Some k → next_request w (option_map (break_or_due f) d) ≡ next_request w (Some (next_at k))
at-some w None None k e = cc
at-some w None (Some j) k e = (let same : j ≡ k = cc in rw same refl)
at-some w (Some at) d k e = cc

low : (w : WorldState) (k : ℕ) → k < 21 → next_request w (Some (next_at k)) ≡ None
low w k below = grind (arith, common_steps)

high : (w : WorldState) (k : ℕ) → 21 ≤ k → k < 61 → next_request w (Some (next_at k)) ≡ pending_of w (if nat_lt k 41 then k - 20 else k - 40)
high w k above below = grind (arith, common_steps)

-- nothing is due
pub place_none : (s : ScheduleState) (w : WorldState) (place : Option ℕ) → place ≡ None → None ≡ due_place s.round w → place ≡ place_due s w
place_none s w place e none = e ∙ by-first (first_due_break (s.taken + 1) (breaks_left s w))
  where
    by-first : (f : Option BreakAt) → None ≡ (if is_some f then None else due_place s.round w)
    by-first None = none
    by-first (Some at) = refl

-- nothing is due, or a break comes first
pub request_none : (s : ScheduleState) (w : WorldState) → None ≡ place_due s w → next_request w (scheduled_next s w) ≡ None
request_none s w e = at-none w (first_due_break (s.taken + 1) (breaks_left s w)) (due_place s.round w) (sym e)

-- a line or a turn
pub request_low : (s : ScheduleState) (w : WorldState) (k : ℕ) → Some k ≡ place_due s w → k < 21 → next_request w (scheduled_next s w) ≡ None
request_low s w k e below = at-some w (first_due_break (s.taken + 1) (breaks_left s w)) (due_place s.round w) k (sym e) ∙ low w k below

-- an answer
pub request_high : (s : ScheduleState) (w : WorldState) (k : ℕ) → Some k ≡ place_due s w → 21 ≤ k → k < 61 → next_request w (scheduled_next s w) ≡ pending_of w (if nat_lt k 41 then k - 20 else k - 40)
request_high s w k e above below = at-some w (first_due_break (s.taken + 1) (breaks_left s w)) (due_place s.round w) k (sym e) ∙ high w k above below
