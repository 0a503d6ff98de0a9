-- Lines that run alone: what a shell that was opened for a line took, and what a launcher was asked for it.
use Rattle.std.specs.Prelude.{◌≡◌, ◌⊎◌, ℕ, ◌+◌, ◌<◌, ◌≤◌, List, [], ◌∷◌, ◌++◌, length, Bool, true, false, Option, Some, None, is_some, IfNone, Result, Ok, Err, ◌==◌, if◌then◌else◌}
use Rattle.ados_text.specs.Text.{Bytes, Text}
use Rattle.ados_find.specs.declared.codes.Codes.{Codes}
use Rattle.ados_machine.specs.declared.answers.Answer.{Answer as Reply}
use Rattle.ados_machine.specs.declared.answers.Answer.TheVariants.{Started, Bytes as Piece, End as EndOfReads, PipeFault}
use Rattle.ados_machine.specs.declared.events.Event.{Event}
use Rattle.ados_machine.specs.declared.events.Event.TheVariants.{Turn, Answer}
use Rattle.ados_machine.specs.declared.outs.Out.{Out}
use Rattle.ados_machine.specs.declared.refusals.Refusal.{Refusal}
use Rattle.ados_machine.specs.declared.refusals.Refusal.TheVariants.{NoMemory}
use Rattle.ados_machine.specs.declared.requests.Request.{Request}
use Rattle.ados_machine.specs.Children.{fits}
use Rattle.ados_machine.specs.Alone.{AreOf, IsEnd, IsLate, bytes_of_outs}
use Rattle.ados_machine.specs.Numbers.{free_number}
use Rattle.ados_machine.specs.Runs.{IsResponse, Runs, resulting_world}
use Rattle.ados_machine.specs.Step.{step_of}
use Rattle.ados_machine.specs.LoneShell.{world_with_opened, whole}
use Rattle.ados_machine.specs.World.{WorldState, pending_of, numbered_shell}
use Rattle.ados_world.specs.Opened.{Refuses, opening_fault}
use Rattle.ados_launcher.specs.declared.calls.Call.{Call}
use Rattle.ados_launch.specs.declared.alone.SystemEnd.{SystemEnd}
use Rattle.ados_launch.specs.declared.alone.SystemEnd.TheVariants.{Ended, NoShell, StillRunning}
use Rattle.ados_launch.specs.declared.alone.SystemFault.{SystemFault}
use Rattle.ados_launch.specs.Agreement.{Agrees}
use Rattle.ados_launch.specs.Asked.{AreAsked, AreNoStarts, IsAsked, ListsOf}
use Rattle.ados_launch.specs.Rounds.{asks_read_or_wait}
use Rattle.ados_launch.specs.Taken.{TakenItem, Given, taken_events, taken_outs}

-- the next event of shell k: an answer if it waits for one, as it has a request, and otherwise a turn
abbrev pub IsNextOf : ℕ → Option Request → Event → Type 0
IsNextOf k None (Turn j) = j ≡ k
IsNextOf k (Some request) (Answer j reply) = j ≡ k
IsNextOf k pending event = ⊥

-- Shell k took its next event, which led to the world `now` and gave `out`; the launcher, which is full or not, was called for the answer,
-- if it is one, and for nothing else.
pub record TakesNext (k : ℕ) (w : WorldState) (is_full : Bool) (calls : List Call) (now : WorldState) (calls_now : List Call) (out : Out) : Type 0 where
  pub event : Event
  pub listed : List Call
  pub is_next : IsNextOf k (pending_of w k) event
  pub accepted : IsResponse event (Ok out) (step_of w event)
  pub world_is : now ≡ resulting_world w (Ok out) (step_of w event)
  pub asked : IsAsked is_full w (Given event out) listed
  pub when_full : is_full ≡ true → AreNoStarts listed
  pub calls_are : calls_now ≡ calls ++ listed

-- An answer was asked for what shell k waits for and not taken, and `others` was listed for it; or, if there is no answer, none was asked.
abbrev pub IsUntaken : Bool → WorldState → ℕ → Option Reply → List Call → Type 0
IsUntaken is_full w k None others = others ≡ []
IsUntaken is_full w k (Some reply) others = ListsOf is_full (pending_of w k) reply others

-- the world and the launcher's calls agree once this answer for shell k is given, which was not taken; without an answer they agree
abbrev pub AgreesOnceTaken : WorldState → ℕ → Option Reply → List Call → Type 0
AgreesOnceTaken w k None calls = Agrees w calls
AgreesOnceTaken w k (Some reply) calls = (out : Out) → IsResponse (Answer k reply) (Ok out) (step_of w (Answer k reply)) →
    Agrees (resulting_world w (Ok out) (step_of w (Answer k reply))) calls

-- the world and the launcher's calls agree once an answer that was not taken is given to the shell that was opened, if one was
abbrev pub AgreesAfterOpening : WorldState → Option ℕ → Option Reply → List Call → Type 0
AgreesAfterOpening w None answer calls = Agrees w calls
AgreesAfterOpening w (Some k) answer calls = AgreesOnceTaken w k answer calls

-- In the world w shell k was opened for a line that has no fault, as the lowest number that was free. It took these events, with these
-- answers among them; no other event was taken, and the result is the last world. The launcher was called for each of the answers once, in
-- their order, and then these others were called.
pub record RunsLine (k : ℕ) (w : WorldState) (line : Text) (is_full : Bool) (taken : List TakenItem) (answers : List Reply) (last : WorldState) (calls calls_now others : List Call) : Type 0 where
  pub no_fault : opening_fault w line ≡ None
  pub free : free_number w.shells ≡ Some k
  pub run : Runs (world_with_opened w k (line ∷ [])) (taken_events taken) (taken_outs taken) last
  pub events_are : AreOf k (taken_events taken) answers []
  pub listed : List Call
  pub asked : AreAsked is_full (world_with_opened w k (line ∷ [])) taken listed
  pub calls_are : calls_now ≡ calls ++ (listed ++ others)

-- The shell that was opened for a line in the world w has ended: the codes, the last world, the bytes, which follow those written before,
-- and the number of events that are left are what the line means, with at most `turns` events.
pub record EndedAs (w : WorldState) (line : Text) (turns : ℕ) (is_full : Bool) (last : WorldState) (before now : Bytes) (calls calls_now : List Call) (codes : Codes) : Type 0 where
  pub k : ℕ
  pub taken : List TakenItem
  pub answers : List Reply
  pub left : ℕ
  pub bytes : Bytes
  pub runs : RunsLine k w line is_full taken answers last calls calls_now []
  pub count : length (taken_events taken) + left ≡ turns
  pub meaning : IsEnd k w (whole turns k w (line ∷ []) answers) left codes last bytes
  pub written : now ≡ before ++ bytes

-- Shell k, opened for a line in the world w, runs on after this many events: by the meaning of the line one more is due.
pub record RunsOn (w : WorldState) (line : Text) (turns : ℕ) (is_full : Bool) (last : WorldState) (before now : Bytes) (calls calls_now : List Call) (k : ℕ) : Type 0 where
  pub taken : List TakenItem
  pub answers : List Reply
  pub runs : RunsLine k w line is_full taken answers last calls calls_now []
  pub count : length (taken_events taken) ≡ turns
  pub meaning : IsLate (whole turns k w (line ∷ []) answers)
  pub written : now ≡ before ++ bytes_of_outs (taken_outs taken)

-- these are the bytes that the last event that was taken printed
abbrev pub AreOfLast : Bytes → List TakenItem → Type 0
AreOfLast bytes taken = (front : List TakenItem) × (event : Event) × (out : Out) × (taken ≡ front ++ Given event out ∷ []) × (bytes ≡ out.bytes)

-- Shell k still runs, one more event was allowed, and there was no memory for it: the answer that was asked for it, if one was, is handed
-- back in the fault, and `others` were called for it.
abbrev pub StopsAtEvent : Bool → ℕ → SystemFault → WorldState → ℕ → List Call → Type 0
StopsAtEvent is_full turns fault w k others =
    (is_some (numbered_shell w k) ≡ true) × (fault.events < turns) × IsUntaken is_full w k fault.answer others × (fault.unwritten ≡ [])

-- There was no room for what the last event printed, which is handed back in the fault; nothing was called for another event.
abbrev pub StopsAtBytes : ℕ → SystemFault → List TakenItem → List Call → Type 0
StopsAtBytes turns fault taken others =
    (fault.events ≤ turns) × AreOfLast fault.unwritten taken × (0 < length fault.unwritten) × (fault.answer ≡ None) × (others ≡ [])

-- Shell k, opened for a line in the world w, has taken the events that this fault counts, and may have ended with the last of them.
pub record LineProgress (w : WorldState) (line : Text) (turns : ℕ) (is_full : Bool) (fault : SystemFault) (last : WorldState) (before now : Bytes) (calls calls_now : List Call) (k : ℕ) : Type 0 where
  pub taken : List TakenItem
  pub answers : List Reply
  pub others : List Call
  pub runs : RunsLine k w line is_full taken answers last calls calls_now others
  pub count : length (taken_events taken) ≡ fault.events
  pub refusal_is : fault.refusal ≡ NoMemory
  pub stops : StopsAtEvent is_full turns fault last k others ⊎ StopsAtBytes turns fault taken others
  pub written : now ++ fault.unwritten ≡ before ++ bytes_of_outs (taken_outs taken)

-- `P` holds of the codes, if the line that ran alone ended
abbrev pub IfEnded : {E : Type 0} → Result SystemEnd E → (Codes → Type 0) → Type 0
IfEnded (Ok (Ended codes)) P = P codes
IfEnded result P = Unit {0}

-- `P` holds of the shell's number, if the line that ran alone runs on
abbrev pub IfRunning : {E : Type 0} → Result SystemEnd E → (ℕ → Type 0) → Type 0
IfRunning (Ok (StillRunning k)) P = P k
IfRunning result P = Unit {0}

-- `P` holds, if no shell was opened for a line: no number was free, or a fault came before
abbrev pub IfUnopened : Result SystemEnd SystemFault → Type 0 → Type 0
IfUnopened (Ok NoShell) P = P
IfUnopened (Ok (Ended codes)) P = Unit {0}
IfUnopened (Ok (StillRunning k)) P = Unit {0}
IfUnopened (Err fault) P = IfNone fault.shell P

-- the fault of a line for which no shell was opened gives no events, answers or bytes
abbrev pub IsUnopened : SystemFault → Type 0
IsUnopened fault = (fault.events ≡ 0) × (fault.answer ≡ None) × (fault.unwritten ≡ [])

-- why no shell was opened for a line: `fault` is the first fault of an opening, `free` the lowest free number
abbrev pub UnopenedReason : Result SystemEnd SystemFault → Option Refusal → Option ℕ → Type 0
UnopenedReason (Ok done) fault free = (fault ≡ None) × (free ≡ None)
UnopenedReason (Err why) fault free = Refuses (Err why.refusal) fault free × IsUnopened why

-- a request is pending, and the answer is of the kind that it asks for
abbrev pub FitsPending : Option Request → Reply → Type 0
FitsPending None reply = ⊥
FitsPending (Some request) reply = fits request reply ≡ true

-- the world and the launcher's calls agree after the fault of a line that ran alone, once an answer that was not taken is given, which is
-- one to what its shell waits for; without a shell or an answer they agree as they are
abbrev pub AgreesAfterFault : WorldState → Option ℕ → Option Reply → List Call → Type 0
AgreesAfterFault w (Some k) (Some reply) calls = FitsPending (pending_of w k) reply × AgreesOnceTaken w k (Some reply) calls
AgreesAfterFault w (Some k) None calls = Agrees w calls
AgreesAfterFault w None answer calls = Agrees w calls

-- the world and the launcher's calls agree after a line that ran alone, with this result, once an answer that was not taken is given
abbrev pub AgreesAfterLine : WorldState → Result SystemEnd SystemFault → List Call → Type 0
AgreesAfterLine w (Ok end) calls = Agrees w calls
AgreesAfterLine w (Err fault) calls = AgreesAfterFault w fault.shell fault.answer calls

-- after this answer the child is open: it has started, or its output was read
abbrev pub keeps_open : Reply → Bool
keeps_open Started = true
keeps_open (Piece bytes) = true
keeps_open EndOfReads = true
keeps_open PipeFault = true
keeps_open reply = false

-- the child of shell k is open after a fault of a line that ran alone, by what the shell asks for and by an answer to the shell of that
-- line which was not taken
abbrev pub is_open_after_fault : WorldState → Option ℕ → Option Reply → ℕ → Bool
is_open_after_fault w (Some shell) (Some reply) k = if shell == k then keeps_open reply else asks_read_or_wait (pending_of w k)
is_open_after_fault w (Some shell) None k = asks_read_or_wait (pending_of w k)
is_open_after_fault w None reply k = asks_read_or_wait (pending_of w k)

-- the child of shell k is open after a line that ran alone, with this result
abbrev pub is_open_after_line : WorldState → Result SystemEnd SystemFault → ℕ → Bool
is_open_after_line w (Ok end) k = asks_read_or_wait (pending_of w k)
is_open_after_line w (Err fault) k = is_open_after_fault w fault.shell fault.answer k
