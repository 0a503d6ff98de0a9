-- The places of a round in stages: the line, and then the turns, the starts, and the reads and waits, in each of which a shell has
-- a place.
use Rattle.std.proofs.Common.{◌≡◌, ℕ, ◌+◌, ◌-◌, ◌<◌, ◌≤◌, inl, inr, min, max, List, Option, Some, None, Bool, true, false, ◌&&◌, not, nat_lt, get_or, arith, refl, sym, ◌∙◌, ap}
use Rattle.std.specs.Prelude.{is_some}
use Rattle.std.specs.List.{find, range_with_len}
use Rattle.std.proofs.lemmas.Bool.{cases_lt}
use Rattle.std.proofs.lemmas.Grind.{common_steps}
use Rattle.ados_machine.specs.declared.requests.Request.{Request}
use Rattle.ados_machine.specs.World.{WorldState, is_ready, pending_of, wants_line}
use Rattle.ados_world.specs.Due.{first_number}
use Rattle.ados_world.proofs.FirstLemmas.{IsFirst, IsNowhere, is-none, is-some, none-is, some-is}
use Rattle.ados_launch.specs.Rounds.{asks_read_or_wait, asks_start, has_event, is_due, is_further_due}
use Rattle.ados_launch.proofs.Places.{comes-late, comes-start, comes-turn}

-- in a stage the shell k has the place k + s
abbrev IsStage : (ℕ → Bool) → (ℕ → Bool) → ℕ → Type 0
IsStage due p s = (k : ℕ) → 1 ≤ k → k ≤ 20 → due (k + s) ≡ p k

at-place : (due p : ℕ → Bool) (s j : ℕ) → IsStage due p s → s < j → j < s + 21 → due j ≡ p (j - s)
at-place due p s j stage low high =
    let same : j - s + s ≡ j = omega (arith, low) in
    ap due (sym same) ∙ stage (j - s) (omega (arith, low)) (omega (arith, low, high))

stage-none : (due p : ℕ → Bool) (s place from : ℕ) → IsStage due p s → from + s ≡ max (s + 1) (min place (s + 21))
    → first_number from p ≡ None → IsNowhere due place (s + 1) → IsNowhere due place (s + 21)
stage-none due p s place from stage clamped e earlier j low high =
    elim (cases_lt s j) [
      | inl here ↦ at-place due p s j stage here high ∙ none-is p from 21 e (j - s) (omega (arith, clamped, low, here, high)) (omega (arith, high, here))
      | inr before ↦ earlier j low (omega (arith, before))
    ]

stage-some : (due p : ℕ → Bool) (s place from k : ℕ) → IsStage due p s → from + s ≡ max (s + 1) (min place (s + 21))
    → first_number from p ≡ Some k → IsNowhere due place (s + 1) → IsFirst due place (s + 21) (k + s)
stage-some due p s place from k stage clamped e earlier =
    let first = some-is p from 21 k (omega (arith, clamped)) e in
    let low = first.low in
    let high = first.high in
    record {
      low = omega (arith, clamped, low, high);
      high = omega (arith, high);
      here = stage k (omega (arith, clamped, low)) (omega (arith, high)) ∙ first.here;
      before = λ j from_place upto. elim (cases_lt s j) [
        | inl here ↦ at-place due p s j stage here (omega (arith, upto, high)) ∙ first.before (j - s) (omega (arith, clamped, from_place, here)) (omega (arith, upto, here))
        | inr before ↦ earlier j from_place (omega (arith, before))
      ];
    }

-- the first of a stage is the first of the round
in-round : (due : ℕ → Bool) (place m k : ℕ) → m ≤ 61 → IsFirst due place m k → Some k ≡ find due (range_with_len place (61 - place))
in-round due place m k within first =
    let high = first.high in
    sym (is-some due place 61 k (record { low = first.low; high = omega (arith, high, within); here = first.here; before = first.before }))

and-true : (b : Bool) → (b && true) ≡ b
and-true true = refl
and-true false = refl

early : (w : WorldState) (answered : List Bool) (j : ℕ) → j ≤ 40 → is_due w answered j ≡ has_event w j
early w answered j low =
    let soon : nat_lt 40 j ≡ false = grind (arith, common_steps) in
    rw soon (and-true (has_event w j))

turns : (w : WorldState) (answered : List Bool) → IsStage (is_due w answered) (is_ready w) 0
turns w answered k low high =
    let same : k + 0 ≡ k = omega arith in
    ap (is_due w answered) same ∙ early w answered k (omega (arith, high)) ∙ comes-turn w k low high

starts : (w : WorldState) (answered : List Bool) → IsStage (is_due w answered) (λ k. asks_start (pending_of w k)) 20
starts w answered k low high =
    let same : k + 20 - 20 ≡ k = omega arith in
    early w answered (k + 20) (omega (arith, high)) ∙ comes-start w (k + 20) (omega (arith, low)) (omega (arith, high))
    ∙ ap (λ n. asks_start (pending_of w n)) same

furthers : (w : WorldState) (answered : List Bool) → IsStage (is_due w answered) (is_further_due w answered) 40
furthers w answered k low high =
    let same : k + 40 - 40 ≡ k = omega arith in
    let late : nat_lt 40 (k + 40) ≡ true = grind (arith, common_steps, low) in
    ap (λ b. b && not (nat_lt 40 (k + 40) && get_or answered (k + 40 - 40) false)) (comes-late w (k + 40) (omega (arith, low)))
    ∙ rw late (ap (is_further_due w answered) same)

-- what asks for a start, or for a read or a wait, asks for something
pub start-asks : (request : Option Request) → asks_start request ≡ true → is_some request ≡ true
start-asks None e = e
start-asks (Some request) e = refl

read-asks : (request : Option Request) → asks_read_or_wait request ≡ true → is_some request ≡ true
read-asks None e = e
read-asks (Some request) e = refl

left-true : (a b : Bool) → (a && b) ≡ true → a ≡ true
left-true true b e = refl
left-true false b e = e

pub further-asks : (w : WorldState) (answered : List Bool) (k : ℕ) → is_further_due w answered k ≡ true → is_some (pending_of w k) ≡ true
further-asks w answered k e = read-asks (pending_of w k) (left-true (asks_read_or_wait (pending_of w k)) (not (get_or answered k false)) e)

-- no line is due
pub no-line : (w : WorldState) (answered : List Bool) (place : ℕ) → (nat_lt place 1 && wants_line w) ≡ false → IsNowhere (is_due w answered) place 1
no-line w answered place e j low high =
    let first : j ≡ 0 = omega (arith, high) in
    let begins : nat_lt place 1 ≡ true = grind (arith, common_steps) in
    let unwanted : wants_line w ≡ false = (let x = rw begins at e in x) in
    ap (is_due w answered) first ∙ early w answered 0 (omega arith) ∙ unwanted

-- then a turn is the first
pub turn-first : (w : WorldState) (answered : List Bool) (place from k : ℕ) → from ≡ max 1 (min place 21)
    → IsNowhere (is_due w answered) place 1 → Some k ≡ first_number from (is_ready w) → Some k ≡ find (is_due w answered) (range_with_len place (61 - place))
turn-first w answered place from k clamped earlier e =
    let whole : k + 0 ≡ k = omega arith in
    sym (ap (λ n. Some n) whole) ∙ in-round (is_due w answered) place 21 (k + 0) (omega arith)
    (stage-some (is_due w answered) (is_ready w) 0 place from k (turns w answered) (omega (arith, clamped)) (sym e) earlier)

pub no-turn : (w : WorldState) (answered : List Bool) (place from : ℕ) → from ≡ max 1 (min place 21)
    → IsNowhere (is_due w answered) place 1 → None ≡ first_number from (is_ready w) → IsNowhere (is_due w answered) place 21
no-turn w answered place from clamped earlier e =
    stage-none (is_due w answered) (is_ready w) 0 place from (turns w answered) (omega (arith, clamped)) (sym e) earlier

-- or a start
pub start-first : (w : WorldState) (answered : List Bool) (place clamped k : ℕ) → clamped ≡ max 21 (min place 41)
    → IsNowhere (is_due w answered) place 21 → Some k ≡ first_number (clamped - 20) (λ n. asks_start (pending_of w n))
    → Some (k + 20) ≡ find (is_due w answered) (range_with_len place (61 - place))
start-first w answered place clamped k e_clamped earlier e =
    in-round (is_due w answered) place 41 (k + 20) (omega arith)
    (stage-some (is_due w answered) (λ n. asks_start (pending_of w n)) 20 place (clamped - 20) k (starts w answered) (omega (arith, e_clamped)) (sym e) earlier)

pub no-start : (w : WorldState) (answered : List Bool) (place clamped : ℕ) → clamped ≡ max 21 (min place 41)
    → IsNowhere (is_due w answered) place 21 → None ≡ first_number (clamped - 20) (λ n. asks_start (pending_of w n)) → IsNowhere (is_due w answered) place 41
no-start w answered place clamped e_clamped earlier e =
    stage-none (is_due w answered) (λ n. asks_start (pending_of w n)) 20 place (clamped - 20) (starts w answered) (omega (arith, e_clamped)) (sym e) earlier

-- or a read or a wait; or nothing is due in the round
pub further-first : (w : WorldState) (answered : List Bool) (place clamped k : ℕ) → clamped ≡ max 41 (min place 61)
    → IsNowhere (is_due w answered) place 41 → Some k ≡ first_number (clamped - 40) (is_further_due w answered)
    → Some (k + 40) ≡ find (is_due w answered) (range_with_len place (61 - place))
further-first w answered place clamped k e_clamped earlier e =
    in-round (is_due w answered) place 61 (k + 40) (omega arith)
    (stage-some (is_due w answered) (is_further_due w answered) 40 place (clamped - 40) k (furthers w answered) (omega (arith, e_clamped)) (sym e) earlier)

pub nothing : (w : WorldState) (answered : List Bool) (place clamped : ℕ) → clamped ≡ max 41 (min place 61)
    → IsNowhere (is_due w answered) place 41 → None ≡ first_number (clamped - 40) (is_further_due w answered)
    → None ≡ find (is_due w answered) (range_with_len place (61 - place))
nothing w answered place clamped e_clamped earlier e =
    sym (is-none (is_due w answered) place 61
    (stage-none (is_due w answered) (is_further_due w answered) 40 place (clamped - 40) (furthers w answered) (omega (arith, e_clamped)) (sym e) earlier))
