-- Sessions: what a driven world took from a reader, a launcher and a list of breaks, and what was written for it.
use Rattle.std.specs.Prelude.{◌≡◌, ℕ, ◌<◌, List, [], ◌∷◌, ◌++◌, length, take, Bool, true, Option, Some}
use Rattle.std.specs.Io.KnownBytes.{Appends}
use Rattle.ados_machine.specs.declared.answers.Answer.{Answer as Reply}
use Rattle.ados_machine.specs.declared.events.BreakAt.{BreakAt}
use Rattle.ados_machine.specs.declared.events.Event.TheVariants.{Answer}
use Rattle.ados_machine.specs.declared.requests.Request.{Request}
use Rattle.ados_machine.specs.Children.{fits}
use Rattle.ados_machine.specs.World.{WorldState, pending_of}
use Rattle.ados_machine.specs.Runs.{Runs}
use Rattle.ados_launcher.specs.declared.calls.Call.{Call}
use Rattle.ados_launch.specs.declared.lines.LineKind.TheVariants.{Overlong}
use Rattle.ados_launch.specs.Agreement.{Agrees}
use Rattle.ados_launch.specs.Lines.{IfKnown, bytes_ahead, rest_after_overlong, kind_of}
use Rattle.ados_launch.specs.Taken.{TakenItem, taken_events, taken_outs, written_bytes, world_after_item, AreRead}
use Rattle.ados_launch.specs.Asked.{AreAsked, call_of}
use Rattle.ados_launch.specs.Schedule.{InOrder, Next, first_schedule_state, next_of_event}

-- The state at a moment of a drive: the world; what the reader has left, and how many of its reads have failed; what the
-- writer holds, how many of its writes have failed, and how many wrote nothing; and the launcher's calls, and whether it is full.
pub record Moment : Type 0 where
  pub world : WorldState
  pub left : Option (List ℕ)
  pub read_faults : ℕ
  pub contents : Option (List ℕ)
  pub write_faults : ℕ
  pub stalls : ℕ
  pub calls : List Call
  pub is_full : Bool

-- the state of a drive when world, reader, writer and launcher are these, by the six functions that say what is known of the last three
abbrev pub moment_of : {S K L : Type 0} → (S → Option (List ℕ)) → (S → ℕ) → (K → Option (List ℕ)) → (K → ℕ) → (K → ℕ) → (L → List Call) → (L → Bool)
    → WorldState → S → K → L → Moment
moment_of left read_faults contents write_faults stalls calls is_full world reader writer launcher = record {
  world = world;
  left = left reader;
  read_faults = read_faults reader;
  contents = contents writer;
  write_faults = write_faults writer;
  stalls = stalls writer;
  calls = calls launcher;
  is_full = is_full launcher;
}

-- Before each of the items that were taken from the world w on, the world and the launcher's calls agree. So a child is waited for before
-- the end of its reads exactly if the world has broken it.
abbrev pub AgreesThroughout : (is_full : Bool) (w : WorldState) (calls : List Call) (taken : List TakenItem) (listed : List Call) → AreAsked is_full w taken listed → Type 0
AgreesThroughout is_full w calls [] listed asked = Agrees w calls
AgreesThroughout is_full w calls (item ∷ taken) listed asked =
    Agrees w calls × AgreesThroughout is_full (world_after_item w item) (calls ++ asked.0) taken asked.1 asked.5

-- From the world w, with a reader that had this left to read, these breaks, and a launcher that had these calls, is or is not full in the
-- end and then listed those, this was taken, and the result is the last world.
pub record Session (w : WorldState) (left : Option (List ℕ)) (breaks : List BreakAt) (calls : List Call) (is_full : Bool) (listed : List Call) (taken : List TakenItem) (last : WorldState) : Type 0 where
  -- the events are a run of the machine, which accepted each
  pub run : Runs w (taken_events taken) (taken_outs taken) last
  -- they came in the order of the schedule
  pub ordered : InOrder (first_schedule_state breaks) w taken
  -- the lines are those of the reader's bytes
  pub lines : IfKnown left (λ bytes. AreRead bytes taken)
  -- the answers are the launcher's: each request was called once, and in their order
  pub asked : AreAsked is_full w taken listed
  -- each was called when the launcher's list and the world agreed
  pub agreed : AgreesThroughout is_full w calls taken listed asked

-- The call is for the answer that comes next: for what its shell asks for, with an answer of that kind.
pub record IsForNext (w : WorldState) (next : Option Next) (call : Call) : Type 0 where
  pub number : ℕ
  pub request : Request
  pub reply : Reply
  pub next_is : next ≡ Some (next_of_event (Answer number reply))
  pub pending_is : pending_of w number ≡ Some request
  pub fit : fits request reply ≡ true
  pub call_is : call ≡ call_of request reply

-- calls whose answers the world did not take: none, or one for the answer that comes next
abbrev pub AreDropped : WorldState → Option Next → List Call → Type 0
AreDropped w next [] = Unit {0}
AreDropped w next (call ∷ []) = IsForNext w next call
AreDropped w next (call ∷ other ∷ calls) = ⊥

-- Between two moments n events and long lines were taken, and all of their bytes were written. The launcher listed what was asked for them,
-- and then these other calls.
pub record SessionProgress (before now : Moment) (breaks : List BreakAt) (n : ℕ) (others : List Call) : Type 0 where
  pub taken : List TakenItem
  pub listed : List Call
  pub count_is : length taken ≡ n
  pub session : Session before.world before.left breaks before.calls now.is_full listed taken now.world
  pub written : Appends before.contents now.contents (written_bytes taken)
  pub calls_are : now.calls ≡ before.calls ++ (listed ++ others)

-- Between two moments n events and long lines were taken, and of what they printed the last bytes were not written. The launcher listed
-- what was asked for them.
pub record CutSessionProgress (before now : Moment) (breaks : List BreakAt) (n : ℕ) : Type 0 where
  pub taken : List TakenItem
  pub listed : List Call
  pub count_is : length taken ≡ n
  pub session : Session before.world before.left breaks before.calls now.is_full listed taken now.world
  pub length_written : ℕ
  pub cut : length_written < length (written_bytes taken)
  pub written : Appends before.contents now.contents (take length_written (written_bytes taken))
  pub calls_are : now.calls ≡ before.calls ++ listed

-- `left` is still to be read, of which fewer than 4,096 bytes were taken from the reader ahead, which has the rest, `now`, if that is known
abbrev pub IsReadAhead : List ℕ → Option (List ℕ) → Type 0
IsReadAhead left now = (held : List ℕ) × (length held < 4096) × (bytes_ahead held now ≡ Some left)

-- of what was left to read, the bytes that show that a line is overlong were taken from the reader, and fewer than 4,096 after them
abbrev pub LeavesOverlong : List ℕ → Option (List ℕ) → Type 0
LeavesOverlong left now = (kind_of left ≡ Overlong) × IsReadAhead (rest_after_overlong left) now
