-- The order in which events come: the breaks of a list, each before the event whose number it names, otherwise what is due in
-- the rounds.
use Rattle.std.specs.Prelude.{◌≡◌, ℕ, ◌+◌, ◌-◌, ◌<◌, List, [], ◌∷◌, drop, Option, Some, None, option_map, is_some, Bool, true, not, ◌&&◌, nat_le, nat_lt, if◌then◌else◌}
use Rattle.std.specs.List.{prefix_len}
use Rattle.ados_machine.specs.declared.events.BreakAt.{BreakAt}
use Rattle.ados_machine.specs.declared.events.Event.{Event}
use Rattle.ados_machine.specs.declared.events.Event.TheVariants.{Typed, EndOfInput, Turn, Answer, Break}
use Rattle.ados_machine.specs.declared.events.BreakKind.{BreakKind}
use Rattle.ados_machine.specs.Children.{answers_start}
use Rattle.ados_machine.specs.World.{WorldState, numbered_shell}
use Rattle.ados_launch.specs.declared.next.Next as due
use Rattle.ados_launch.specs.declared.next.Next.TheVariants.{Line as LineDue, Turn as TurnDue, Start as StartDue, Further as FurtherDue}
use Rattle.ados_launch.specs.declared.rounds.Round.{Round}
use Rattle.ados_launch.specs.declared.schedule.Next as found
use Rattle.ados_launch.specs.declared.schedule.Next.TheVariants.{Break as BreakFound, Due as DueFound}
use Rattle.ados_launch.specs.Rounds.{has_event, due_place, first_round, passed_round, following_round}
use Rattle.ados_launch.specs.Taken.{TakenItem, Given, LongLine, world_after_item}

-- The state of a schedule: the round; the breaks of its list that were neither given nor passed over; and how many events and
-- long lines were taken.
pub record ScheduleState : Type 0 where
  pub round : Round
  pub breaks : List BreakAt
  pub taken : ℕ

-- the state of a schedule as it begins with this list of breaks
abbrev pub first_schedule_state : List BreakAt → ScheduleState
first_schedule_state breaks = record { round = first_round; breaks = breaks; taken = 0 }

-- what comes next: a break of a shell; a line; a shell's turn, the answer to its start, or to its read or wait
pub data Next : Type 0 where
  AtBreak : (shell : ℕ) (kind : BreakKind) → Next
  AtLine : Next
  AtTurn : (shell : ℕ) → Next
  AtStart : (shell : ℕ) → Next
  AtFurther : (shell : ℕ) → Next

-- what comes next, as a session names it, as the schedule names it; it is no break
abbrev pub next_named : due.Next → Next
next_named LineDue = AtLine
next_named (TurnDue shell) = AtTurn shell
next_named (StartDue shell) = AtStart shell
next_named (FurtherDue shell) = AtFurther shell

-- what comes next, if it is not a break
abbrev pub unless_break : Option Next → Option Next
unless_break None = None
unless_break (Some (AtBreak shell kind)) = None
unless_break (Some AtLine) = Some AtLine
unless_break (Some (AtTurn shell)) = Some (AtTurn shell)
unless_break (Some (AtStart shell)) = Some (AtStart shell)
unless_break (Some (AtFurther shell)) = Some (AtFurther shell)

-- what is due at this place of a round: at 0 a line, at 1 to 20 the turn of that shell, at 21 to 40 the answer to its start, and from 41 on
-- that to its read or wait
abbrev pub next_at : ℕ → Next
next_at place =
    if nat_lt place 1 then AtLine else
    (if nat_lt place 21 then AtTurn place else
    (if nat_lt place 41 then AtStart (place - 20) else AtFurther (place - 40)))

-- the place in a round of what comes next; 0 stands for a break, which has none
abbrev pub round_place : Next → ℕ
round_place (AtBreak shell kind) = 0
round_place AtLine = 0
round_place (AtTurn shell) = shell
round_place (AtStart shell) = shell + 20
round_place (AtFurther shell) = shell + 40

-- a break is passed over before the event with this number, for good, as its shell does not run and its number has come
abbrev pub is_passed : ℕ → WorldState → BreakAt → Bool
is_passed number w at = nat_le at.event number && not (is_some (numbered_shell w at.shell))

-- the breaks that are left of a schedule before the next event, without those that are passed over
abbrev pub breaks_left : ScheduleState → WorldState → List BreakAt
breaks_left s w = drop (prefix_len (is_passed (s.taken + 1) w) s.breaks) s.breaks

-- the first of these breaks, if it comes before the event with this number
abbrev pub first_due_break : ℕ → List BreakAt → Option BreakAt
first_due_break number [] = None
first_due_break number (at ∷ breaks) = if nat_le at.event number then Some at else None

-- what comes next: a break that is due, if there is one, and else what is due at this place of the round
abbrev pub break_or_due : Option BreakAt → ℕ → Next
break_or_due None place = next_at place
break_or_due (Some at) place = AtBreak at.shell at.kind

-- what comes next in a world, by the schedule; if nothing is due no break comes either
abbrev pub scheduled_next : ScheduleState → WorldState → Option Next
scheduled_next s w = option_map (break_or_due (first_due_break (s.taken + 1) (breaks_left s w))) (due_place s.round w)

-- the place in the round of what comes next, if it is not a break
abbrev pub place_due : ScheduleState → WorldState → Option ℕ
place_due s w = if is_some (first_due_break (s.taken + 1) (breaks_left s w)) then None else due_place s.round w

-- the schedule after what came at this place of its round
abbrev pub schedule_state_after_place : ScheduleState → WorldState → ℕ → ScheduleState
schedule_state_after_place s w place = record { round = following_round s.round w place; breaks = breaks_left s w; taken = s.taken + 1 }

-- the schedule after what came next in a world: a break leaves the round unchanged
abbrev pub following_schedule_state : ScheduleState → WorldState → Next → ScheduleState
following_schedule_state s w (AtBreak shell kind) = record { round = s.round; breaks = drop 1 (breaks_left s w); taken = s.taken + 1 }
following_schedule_state s w AtLine = schedule_state_after_place s w (round_place AtLine)
following_schedule_state s w (AtTurn shell) = schedule_state_after_place s w (round_place (AtTurn shell))
following_schedule_state s w (AtStart shell) = schedule_state_after_place s w (round_place (AtStart shell))
following_schedule_state s w (AtFurther shell) = schedule_state_after_place s w (round_place (AtFurther shell))

-- what was found to come next, as the schedule names it
abbrev pub found_next : found.Next → Next
found_next (BreakFound at) = AtBreak at.shell at.kind
found_next (DueFound due_at) = next_at due_at.place

-- the schedule after what was found to come next, once the breaks before it were passed over
abbrev pub passed_schedule_state : ScheduleState → found.Next → ScheduleState
passed_schedule_state s (BreakFound at) = record s { breaks = drop 1 s.breaks; taken = s.taken + 1 }
passed_schedule_state s (DueFound due_at) = record s { round = passed_round s.round due_at; taken = s.taken + 1 }

-- in a world what was found to come next may come: a break of a shell that runs, or what may come at a place
abbrev pub MayCome : WorldState → found.Next → Type 0
MayCome w (BreakFound at) = is_some (numbered_shell w at.shell) ≡ true
MayCome w (DueFound due_at) = (due_at.place < 61) × (has_event w due_at.place ≡ true)

-- what was found to come next has a place in the round, unless it is a break
abbrev pub IsInRound : found.Next → Type 0
IsInRound (BreakFound at) = Unit {0}
IsInRound (DueFound due_at) = due_at.place < 61

-- what an event is to a schedule: a place of a round, or a break
abbrev pub next_of_event : Event → Next
next_of_event (Typed line) = AtLine
next_of_event EndOfInput = AtLine
next_of_event (Turn k) = AtTurn k
next_of_event (Answer k reply) = if answers_start reply then AtStart k else AtFurther k
next_of_event (Break k kind) = AtBreak k kind

-- what an item that was taken is to a schedule: long lines are read at the place of lines
abbrev pub next_of : TakenItem → Next
next_of (Given event out) = next_of_event event
next_of LongLine = AtLine

-- from this state of the schedule and this world on, each of these items was the next to come
abbrev pub InOrder : ScheduleState → WorldState → List TakenItem → Type 0
InOrder s w [] = Unit {0}
InOrder s w (item ∷ taken) = (scheduled_next s w ≡ Some (next_of item)) × InOrder (following_schedule_state s w (next_of item)) (world_after_item w item) taken

-- the schedule after all of these items, from this state and this world on
abbrev pub final_schedule_state : ScheduleState → WorldState → List TakenItem → ScheduleState
final_schedule_state s w [] = s
final_schedule_state s w (item ∷ taken) = final_schedule_state (following_schedule_state s w (next_of item)) (world_after_item w item) taken

-- what comes next in the world `now`, to which these items led from the world w, by a schedule with these breaks
abbrev pub next_after_taken : List BreakAt → WorldState → List TakenItem → WorldState → Option Next
next_after_taken breaks w taken now = scheduled_next (final_schedule_state (first_schedule_state breaks) w taken) now

-- a line comes next in the world `now`, to which these items led from the world w, by a schedule with these breaks
abbrev pub IsLineNext : List BreakAt → WorldState → List TakenItem → WorldState → Type 0
IsLineNext breaks w taken now = next_after_taken breaks w taken now ≡ Some AtLine

-- in a world shell 1 runs, and its input has not ended
abbrev pub has_open_input : WorldState → Bool
has_open_input w = is_some (numbered_shell w 1) && not w.input_ended
