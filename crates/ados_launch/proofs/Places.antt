-- The places of a round.
use Rattle.std.proofs.Common.{◌≡◌, ℕ, zero, suc, ◌∷◌, ◌+◌, ◌-◌, ◌<◌, ◌≤◌, List, [], Option, Some, None, Bool, true, false, ◌&&◌, get_or, arith, refl, sym, subst, ◌∙◌, cond, inl, inr}
use Rattle.std.proofs.Math.ListN.{replicate}
use Rattle.std.specs.List.{find, range_with_len}
use Rattle.std.specs.Option.{option_or}
use Rattle.std.proofs.lemmas.Bool.{cases_Bool, cases_eq}
use Rattle.std.proofs.lemmas.Grind.{common_steps}
use Rattle.ados_machine.specs.declared.requests.Request.{Request}
use Rattle.ados_machine.specs.World.{WorldState, is_ready, pending_of, wants_line}
use Rattle.ados_launch.specs.declared.rounds.Round.{Round}
use Rattle.ados_launch.specs.Rounds.{asks_read_or_wait, asks_start, has_event, is_due, due_place, in_this_round, in_next_round, no_answers, following_place, IsRunning, IsIdle}

passes_cons : (test : ℕ → Bool) (x : ℕ) (xs : List ℕ) (k : ℕ) (b : Bool) → test x ≡ b → cond b (Some x) (find test xs) ≡ Some k → (find test xs ≡ Some k → test k ≡ true) → test k ≡ true
passes_cons test x xs k true t f later = let same : x ≡ k = cc in rw (← same) t
passes_cons test x xs k false t f later = later f

find_passes : (test : ℕ → Bool) (xs : List ℕ) (k : ℕ) → find test xs ≡ Some k → test k ≡ true
find_passes test [] k e = cc
find_passes test (x ∷ xs) k e = passes_cons test x xs k (test x) refl e (find_passes test xs k)

range_below : (test : ℕ → Bool) (n a m k : ℕ) → a + n ≤ m → find test (range_with_len a n) ≡ Some k → k < m
range_below test zero a m k h e = cc
range_below test (suc n) a m k h e =
    elim (cases_Bool (test a)) [
      | inl on ↦ let same : a ≡ k = (let x = rw on at e in cc) in omega (arith, h, same)
      | inr off ↦ range_below test n (a + 1) m k (omega (arith, h)) (rw off at e)
    ]

none_range : (test : ℕ → Bool) (n a k : ℕ) → find test (range_with_len a n) ≡ None → a ≤ k → k < a + n → test k ≡ false
none_range test zero a k e low high = absurd (omega (arith, low, high))
none_range test (suc n) a k e low high =
    elim (cases_Bool (test a)) [
      | inl on ↦ (let x = rw on at e in cc)
      | inr off ↦ elim (cases_eq a k) [
        | inl same ↦ rw (← same) off
        | inr other ↦ none_range test n (a + 1) k (rw off at e) (omega (arith, low, other)) (omega (arith, high))
      ]
    ]

first_true : (a b : Bool) → (a && b) ≡ true → a ≡ true
first_true true b e = refl
first_true false b e = cc

by_option : (this next : Option ℕ) (k : ℕ) (P : Type 0) → Some k ≡ option_or this next → (this ≡ Some k → P) → (next ≡ Some k → P) → P
by_option (Some j) next k P e a b = a (sym e)
by_option None next k P e a b = b (sym e)

-- something may come at the place that is due
pub due_comes : (round : Round) (k : ℕ) (w : WorldState) → Some k ≡ due_place round w → has_event w k ≡ true
due_comes round k w e = by_option (in_this_round round w) (in_next_round w) k (has_event w k ≡ true) e
    (λ here. first_true (has_event w k) _ (find_passes (is_due w round.answered) (range_with_len round.place (61 - round.place)) k here))
    (λ there. first_true (has_event w k) _ (find_passes (is_due w no_answers) (range_with_len 0 61) k there))

pub due_below : (round : Round) (k : ℕ) (w : WorldState) → round.place ≤ 61 → Some k ≡ due_place round w → k < 61
due_below round k w h e = by_option (in_this_round round w) (in_next_round w) k (k < 61) e
    (λ here. range_below (is_due w round.answered) (61 - round.place) round.place 61 k (omega (arith, h)) here)
    (λ there. range_below (is_due w no_answers) 61 0 61 k (omega arith) there)

pub after_in_round : (k : ℕ) → k < 61 → following_place k ≤ 61
after_in_round zero h = omega arith
after_in_round (suc k) h = omega arith

-- if something is due, something may come
pub running : (round : Round) (k : ℕ) (w : WorldState) → round.place ≤ 61 → Some k ≡ due_place round w → IsRunning w
running round k w h e =
    let low : k < 61 = due_below round k w h e in
    (k, omega (arith, low), due_comes round k w e)

none_of : (this next : Option ℕ) → None ≡ option_or this next → next ≡ None
none_of (Some j) next e = cc
none_of None next e = sym e

none_there : (n i : ℕ) → get_or (replicate n false) i false ≡ false
none_there zero i = refl
none_there (suc n) zero = refl
none_there (suc n) (suc i) = none_there n i

not_due : (w : WorldState) (place : ℕ) → is_due w no_answers place ≡ false → has_event w place ≡ false
not_due w place e =
    elim (cases_Bool (has_event w place)) [
      | inl on ↦ (let none = none_there 21 (place - 40) in grind (arith, common_steps))
      | inr off ↦ off
    ]

-- if nothing is due, nothing may come
pub idle : (round : Round) (w : WorldState) → None ≡ due_place round w → IsIdle w
idle round w e k h = not_due w k (none_range (is_due w no_answers) 61 0 k (none_of (in_this_round round w) (in_next_round w) e) (omega arith) (omega (arith, h)))

comes-line : (w : WorldState) → has_event w 0 ≡ wants_line w
comes-line w = refl

pub comes-turn : (w : WorldState) (place : ℕ) → 1 ≤ place → place ≤ 20 → has_event w place ≡ is_ready w place
comes-turn w place low high = grind (arith, common_steps)

pub comes-start : (w : WorldState) (place : ℕ) → 21 ≤ place → place ≤ 40 → has_event w place ≡ asks_start (pending_of w (place - 20))
comes-start w place low high = grind (arith, common_steps)

pub comes-late : (w : WorldState) (place : ℕ) → 40 < place → has_event w place ≡ asks_read_or_wait (pending_of w (place - 40))
comes-late w place h = grind (arith, common_steps)

-- then no line is wanted, no shell is ready, and none asks for anything
pub idle-line : (w : WorldState) → IsIdle w → wants_line w ≡ false
idle-line w i = i 0 (omega arith)

pub idle-turn : (w : WorldState) (k : ℕ) → IsIdle w → 1 ≤ k → k ≤ 20 → is_ready w k ≡ false
idle-turn w k i low high = sym (comes-turn w k low high) ∙ i k (omega (arith, high))

starts-none : (w : WorldState) (k : ℕ) → IsIdle w → 1 ≤ k → k ≤ 20 → asks_start (pending_of w k) ≡ false
starts-none w k i low high =
    let same : k + 20 - 20 ≡ k = omega arith in
    subst (λ n. asks_start (pending_of w n) ≡ false) same (sym (comes-start w (k + 20) (omega (arith, low)) (omega (arith, high))) ∙ i (k + 20) (omega (arith, high)))

further-none : (w : WorldState) (k : ℕ) → IsIdle w → 1 ≤ k → k ≤ 20 → asks_read_or_wait (pending_of w k) ≡ false
further-none w k i low high =
    let same : k + 40 - 40 ≡ k = omega arith in
    subst (λ n. asks_read_or_wait (pending_of w n) ≡ false) same (sym (comes-late w (k + 40) (omega (arith, low))) ∙ i (k + 40) (omega (arith, high)))

no-request : (request : Option Request) → asks_start request ≡ false → asks_read_or_wait request ≡ false → request ≡ None
no-request request a b = grind (arith, common_steps)

pub idle-pending : (w : WorldState) (k : ℕ) → IsIdle w → 1 ≤ k → k ≤ 20 → pending_of w k ≡ None
idle-pending w k i low high = no-request (pending_of w k) (starts-none w k i low high) (further-none w k i low high)
