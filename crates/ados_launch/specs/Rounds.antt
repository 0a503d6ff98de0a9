-- The rounds in which events come, by place. At place 0 lines are read for as long as one is wanted. At places 1 to 20
-- the shells take their turns, at places 21 to 40 their starts are answered, and at places 41 to 60 their reads and waits, each
-- shell when its place comes. A shell that had an answer in a round gets no second read or wait answered in it.
use Rattle.std.specs.Prelude.{◌≡◌, ℕ, zero, suc, ◌+◌, ◌-◌, ◌≤◌, List, Option, Some, None, Bool, true, false, not, ◌&&◌, nat_lt, get_or, slice_set, if◌then◌else◌}
use Rattle.std.proofs.Math.ListN.{replicate}
use Rattle.std.specs.List.{find, range_with_len}
use Rattle.std.specs.Option.{option_or}
use Rattle.ados_machine.specs.declared.requests.Request.{Request}
use Rattle.ados_machine.specs.declared.requests.Request.TheVariants.{Start, Read, Wait}
use Rattle.ados_machine.specs.World.{WorldState, is_ready, pending_of, wants_line}
use Rattle.ados_launch.specs.declared.rounds.Due.{Due}
use Rattle.ados_launch.specs.declared.rounds.Round.{Round}

-- a request is there, and is for a start
abbrev pub asks_start : Option Request → Bool
asks_start None = false
asks_start (Some (Start job)) = true
asks_start (Some (Read k)) = false
asks_start (Some (Wait k)) = false

-- a request is there, and is for a read or a wait
abbrev pub asks_read_or_wait : Option Request → Bool
asks_read_or_wait None = false
asks_read_or_wait (Some (Start job)) = false
asks_read_or_wait (Some (Read k)) = true
asks_read_or_wait (Some (Wait k)) = true

-- something may come at this place of a round: at 0 a line is wanted, at 1 to 20 the shell of that number is ready, at 21 to 40 the shell
-- 20 less asks for a start, and from 41 on the shell 40 less asks for a read or a wait
abbrev pub has_event : WorldState → ℕ → Bool
has_event w place =
    if nat_lt place 1 then wants_line w else
    (if nat_lt place 21 then is_ready w place else
    (if nat_lt place 41 then asks_start (pending_of w (place - 20)) else asks_read_or_wait (pending_of w (place - 40))))

-- something is due at this place of a round: what may come there, except for a read or a wait of a shell that had an answer in the round,
-- by this table
abbrev pub is_due : WorldState → List Bool → ℕ → Bool
is_due w answered place = has_event w place && not (nat_lt 40 place && get_or answered (place - 40) false)

-- a read or a wait of shell k is due: it is asked for, and the shell had no answer in the round, by this table
abbrev pub is_further_due : WorldState → List Bool → ℕ → Bool
is_further_due w answered k = asks_read_or_wait (pending_of w k) && not (get_or answered k false)

-- the table, by number, of a round in which no shell had an answer
abbrev pub no_answers : List Bool
no_answers = replicate 21 false

-- a round as it begins: no place has been passed, and no shell had an answer
abbrev pub first_round : Round
first_round = record { place = 0; answered = no_answers }

-- the place of the next event in this round, if one comes in it
abbrev pub in_this_round : Round → WorldState → Option ℕ
in_this_round round w = find (is_due w round.answered) (range_with_len round.place (61 - round.place))

-- the place of the first event of the next round, if one comes
abbrev pub in_next_round : WorldState → Option ℕ
in_next_round w = find (is_due w no_answers) (range_with_len 0 61)

-- the place of the next event, in this round or as the first of the next one: between two events the world does not change
abbrev pub due_place : Round → WorldState → Option ℕ
due_place round w = option_or (in_this_round round w) (in_next_round w)

-- which shells had an answer in the round of the next event: none, if no place of this round is left and a new one begins
abbrev pub answered_or_none : Option ℕ → List Bool → List Bool
answered_or_none None answered = no_answers
answered_or_none (Some place) answered = answered

-- which shells had an answer in the round of the next event: none, if that event begins a new round
abbrev pub answered_shells : Round → WorldState → List Bool
answered_shells round w = answered_or_none (in_this_round round w) round.answered

-- the place from which a round goes on after this one: lines are read for as long as they are wanted
abbrev pub following_place : ℕ → ℕ
following_place zero = 0
following_place (suc k) = suc k + 1

-- the shells that had an answer in this round, with the one of this place, if an answer comes at it
abbrev pub marked_answers : ℕ → List Bool → List Bool
marked_answers place answered =
    if nat_lt place 21 then answered else
    (if nat_lt place 41 then slice_set answered (place - 20) true else slice_set answered (place - 40) true)

-- the round after what came at this place
abbrev pub following_round : Round → WorldState → ℕ → Round
following_round round w place = record { place = following_place place; answered = marked_answers place (answered_shells round w) }

-- the round after what was found to be due, in this round or as the first of a new one
abbrev pub passed_round : Round → Due → Round
passed_round round found = record { place = following_place found.place; answered = marked_answers found.place (if found.begins then no_answers else round.answered) }

-- in a world something may come at some place of a round
abbrev pub IsRunning : WorldState → Type 0
IsRunning w = (place : ℕ) × (place ≤ 60) × (has_event w place ≡ true)

-- in a world nothing may come at any place of a round: no line is wanted, no shell is ready, and none asks for anything
abbrev pub IsIdle : WorldState → Type 0
IsIdle w = (place : ℕ) → place ≤ 60 → has_event w place ≡ false
