-- Asked: what a launcher is asked for, given the events that a run takes.
use Rattle.std.specs.Prelude.{◌≡◌, ◌≢◌, ◌⊎◌, ℕ, List, [], ◌∷◌, ◌++◌, Bool, true, false, Option, Some, None, Result, Ok, MatchResult}
use Rattle.ados_machine.specs.declared.answers.Answer.{Answer as Reply}
use Rattle.ados_machine.specs.declared.answers.Answer.TheVariants.{Memory}
use Rattle.ados_machine.specs.declared.children.ChildState.{ChildState}
use Rattle.ados_machine.specs.declared.children.ChildState.TheVariants.{Closed, Reading}
use Rattle.ados_machine.specs.declared.events.Event.TheVariants.{Typed, EndOfInput, Turn, Answer, Break}
use Rattle.ados_machine.specs.declared.outs.Out.{Out}
use Rattle.ados_machine.specs.declared.requests.Request.{Request}
use Rattle.ados_machine.specs.declared.requests.Request.TheVariants.{Start, Read, Wait}
use Rattle.ados_machine.specs.Children.{fits}
use Rattle.ados_machine.specs.Runs.{IsResponse, resulting_world}
use Rattle.ados_machine.specs.Step.{step_of}
use Rattle.ados_machine.specs.World.{WorldState, pending_of}
use Rattle.ados_launcher.specs.declared.calls.Call.{Call}
use Rattle.ados_launcher.specs.declared.calls.Call.TheVariants.{Start as Starts, Read as Reads, Wait as Waits}
use Rattle.ados_launch.specs.Taken.{TakenItem, Given, LongLine, world_after_item}

-- the request is a program's start
abbrev pub is_start : Request → Bool
is_start (Start job) = true
is_start (Read n) = false
is_start (Wait n) = false

-- the call of a launcher to which a request leads, with its answer
abbrev pub call_of : Request → Reply → Call
call_of (Start job) reply = Starts job reply
call_of (Read n) reply = Reads n reply
call_of (Wait n) reply = Waits n reply

-- A request may be made of a child in this state: a start if there is none, a read while its output is read, and a wait for one that is
-- open, even before the end of its reads.
abbrev pub MayAsk : Request → ChildState → Type 0
MayAsk (Start job) state = state ≡ Closed
MayAsk (Read n) state = state ≡ Reading
MayAsk (Wait n) state = state ≢ Closed

-- What a launcher, which is full or not in the end, lists for a request with this answer: the call, with an answer of its kind. A start
-- that finds no room is answered Memory, and is not listed; the launcher is full then, and stays full.
abbrev pub Lists : Bool → Request → Reply → List Call → Type 0
Lists is_full request reply listed =
    (fits request reply ≡ true)
    × ((listed ≡ call_of request reply ∷ []) ⊎ ((listed ≡ []) × (is_start request ≡ true) × (reply ≡ Memory) × (is_full ≡ true)))

-- what a launcher, which is full or not in the end, lists for a request with this answer, if there is a request
abbrev pub ListsOf : Bool → Option Request → Reply → List Call → Type 0
ListsOf is_full None reply listed = ⊥
ListsOf is_full (Some request) reply listed = Lists is_full request reply listed

-- what a launcher, which is full or not in the end, lists for an item that a run takes in the world w: for an answer, what its shell waits
-- for, and else nothing
abbrev pub IsAsked : Bool → WorldState → TakenItem → List Call → Type 0
IsAsked is_full w (Given (Answer k reply) out) listed = ListsOf is_full (pending_of w k) reply listed
IsAsked is_full w (Given (Typed line) out) listed = listed ≡ []
IsAsked is_full w (Given EndOfInput out) listed = listed ≡ []
IsAsked is_full w (Given (Turn k) out) listed = listed ≡ []
IsAsked is_full w (Given (Break k kind) out) listed = listed ≡ []
IsAsked is_full w LongLine listed = listed ≡ []

-- no program's start is among these calls
abbrev pub AreNoStarts : List Call → Type 0
AreNoStarts [] = Unit {0}
AreNoStarts (Starts job reply ∷ calls) = ⊥
AreNoStarts (Reads n reply ∷ calls) = AreNoStarts calls
AreNoStarts (Waits n reply ∷ calls) = AreNoStarts calls

-- `now` are the calls for an item that was taken: an answer without one is that of a full launcher, so that no start is among the calls
-- that it lists later
abbrev pub HasCall : TakenItem → List Call → List Call → Type 0
HasCall (Given (Answer k reply) out) [] later = AreNoStarts later
HasCall (Given (Answer k reply) out) (call ∷ calls) later = Unit {0}
HasCall (Given (Typed line) out) now later = Unit {0}
HasCall (Given EndOfInput out) now later = Unit {0}
HasCall (Given (Turn k) out) now later = Unit {0}
HasCall (Given (Break k kind) out) now later = Unit {0}
HasCall LongLine now later = Unit {0}

-- `listed` are the calls of a launcher, which is full or not in the end, for everything that was taken from the world w on, in order, each
-- once
abbrev pub AreAsked : Bool → WorldState → List TakenItem → List Call → Type 0
AreAsked is_full w [] listed = listed ≡ []
AreAsked is_full w (item ∷ taken) listed =
    (now later : List Call) × (listed ≡ now ++ later) × IsAsked is_full w item now × HasCall item now later × AreAsked is_full (world_after_item w item) taken later

-- A request was made to a launcher, which gave this answer: from one list of calls to the other it listed what it does for that, and it is
-- full now or not; one that was full stays so.
pub record Asks (request : Request) (reply : Reply) (was_full is_full : Bool) (calls calls_now : List Call) : Type 0 where
  pub listed : List Call
  pub calls_are : calls_now ≡ calls ++ listed
  pub lists : Lists is_full request reply listed
  pub when_full : is_full ≡ true → AreNoStarts listed
  pub stays : was_full ≡ true → is_full ≡ true

-- A launcher was asked for what shell k waits for, listed that, and what became of its answer is the outcome.
pub record LauncherAnswers (w : WorldState) (k : ℕ) (was_full is_full : Bool) (calls calls_now : List Call) (outcome : Reply → Type 0) : Type 0 where
  pub request : Request
  pub pending_is : pending_of w k ≡ Some request
  pub reply : Reply
  pub asks : Asks request reply was_full is_full calls calls_now
  pub led_to : outcome reply

-- the world w took this answer for shell k, which gave `out` and led to the world `now`
abbrev pub IsTaken : WorldState → ℕ → WorldState → Out → Reply → Type 0
IsTaken w k now out reply = IsResponse (Answer k reply) (Ok out) (step_of w (Answer k reply)) × (now ≡ resulting_world w (Ok out) (step_of w (Answer k reply)))

-- the world w took this answer for shell k, with this result: it gave `out` and led to the world `now`; if it did not take it, the world is
-- unchanged
abbrev pub TakesAnswer : {X E : Type 0} → WorldState → ℕ → Result X E → WorldState → Out → Reply → Type 0
TakesAnswer w k result now out reply = MatchResult result (λ _. IsTaken w k now out reply) (λ _. now ≡ w)
