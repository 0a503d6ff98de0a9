-- What was taken, with one more after it.
use Rattle.std.proofs.Common.{◌≡◌, ℕ, ◌+◌, List, [], ◌∷◌, ◌++◌, Bool, true, length, Option, Some, None, refl, ap, sym, ◌∙◌, append_assoc, append-nil, length-append, inl, inr}
use Rattle.ados_machine.specs.declared.answers.Answer.{Answer as Reply}
use Rattle.ados_machine.specs.declared.events.Event.TheVariants.{Typed, EndOfInput, Turn, Answer, Break}
use Rattle.ados_machine.specs.declared.requests.Request.{Request}
use Rattle.ados_machine.specs.World.{WorldState, pending_of}
use Rattle.ados_machine.specs.Runs.{Runs}
use Rattle.ados_launcher.specs.declared.calls.Call.{Call}
use Rattle.ados_launcher.specs.declared.calls.Call.TheVariants.{Start as Starts, Read as Reads, Wait as Waits}
use Rattle.ados_launch.specs.Asked.{AreAsked, AreNoStarts, HasCall, IsAsked, ListsOf}
use Rattle.ados_launch.specs.Taken.{TakenItem, Given, LongLine, taken_events, taken_outs, bytes_of, written_bytes, world_after_item, IsAccepted, IsNext, rest_after_item, AreRead, rest_after_items}
use Rattle.ados_launch.specs.Agreement.{Agrees}
use Rattle.ados_launch.specs.Schedule.{ScheduleState, InOrder, scheduled_next, next_of, final_schedule_state, following_schedule_state}
use Rattle.ados_launch.specs.Session.{AgreesThroughout}

pub run-more : (w : WorldState) (taken : List TakenItem) (mid : WorldState) (item : TakenItem) → Runs w (taken_events taken) (taken_outs taken) mid → IsAccepted mid item
    → Runs w (taken_events (taken ++ item ∷ [])) (taken_outs (taken ++ item ∷ [])) (world_after_item mid item)
run-more w [] mid (Given event out) run ok = (rw run at ok, rw run refl)
run-more w [] mid LongLine run ok = run
run-more w (Given event out ∷ taken) mid item run ok = (run.0, run-more (world_after_item w (Given event out)) taken mid item run.1 ok)
run-more w (LongLine ∷ taken) mid item run ok = run-more w taken mid item run ok

pub order-more : (s : ScheduleState) (w : WorldState) (taken : List TakenItem) (last : WorldState) (item : TakenItem) → InOrder s w taken → Runs w (taken_events taken) (taken_outs taken) last
    → scheduled_next (final_schedule_state s w taken) last ≡ Some (next_of item) → InOrder s w (taken ++ item ∷ [])
order-more s w [] last item ordered run next = (rw run at next, tt)
order-more s w (Given event out ∷ taken) last item ordered run next =
    (ordered.0, order-more (following_schedule_state s w (next_of (Given event out))) (world_after_item w (Given event out)) taken last item ordered.1 run.1 next)
order-more s w (LongLine ∷ taken) last item ordered run next = (ordered.0, order-more (following_schedule_state s w (next_of LongLine)) w taken last item ordered.1 run next)

pub standing-more : (s : ScheduleState) (w : WorldState) (taken : List TakenItem) (last : WorldState) (item : TakenItem) → Runs w (taken_events taken) (taken_outs taken) last
    → final_schedule_state s w (taken ++ item ∷ []) ≡ following_schedule_state (final_schedule_state s w taken) last (next_of item)
standing-more s w [] last item run = rw run refl
standing-more s w (Given event out ∷ taken) last item run =
    standing-more (following_schedule_state s w (next_of (Given event out))) (world_after_item w (Given event out)) taken last item run.1
standing-more s w (LongLine ∷ taken) last item run = standing-more (following_schedule_state s w (next_of LongLine)) w taken last item run

pub starts-more : (later more : List Call) → AreNoStarts later → AreNoStarts more → AreNoStarts (later ++ more)
starts-more [] more none others = others
starts-more (Starts job reply ∷ later) more none others = none
starts-more (Reads n reply ∷ later) more none others = starts-more later more none others
starts-more (Waits n reply ∷ later) more none others = starts-more later more none others

-- if nothing was listed for an answer the launcher is full
unlisted-full : (is_full : Bool) (request : Option Request) (reply : Reply) → ListsOf is_full request reply [] → is_full ≡ true
unlisted-full is_full None reply lists = absurd lists
unlisted-full is_full (Some request) reply (fit, inl here) = cc
unlisted-full is_full (Some request) reply (fit, inr none) = none.3

call-more : (is_full : Bool) (w : WorldState) (item : TakenItem) (now later more : List Call) → IsAsked is_full w item now → HasCall item now later → (is_full ≡ true → AreNoStarts more) → HasCall item now (later ++ more)
call-more is_full w (Given (Answer k reply) out) [] later more asked has full = starts-more later more has (full (unlisted-full is_full (pending_of w k) reply asked))
call-more is_full w (Given (Answer k reply) out) (call ∷ calls) later more asked has full = tt
call-more is_full w (Given (Typed line) out) now later more asked has full = tt
call-more is_full w (Given EndOfInput out) now later more asked has full = tt
call-more is_full w (Given (Turn k) out) now later more asked has full = tt
call-more is_full w (Given (Break k kind) out) now later more asked has full = tt
call-more is_full w LongLine now later more asked has full = tt

call-last : (item : TakenItem) (now : List Call) → HasCall item now []
call-last (Given (Answer k reply) out) [] = tt
call-last (Given (Answer k reply) out) (call ∷ calls) = tt
call-last (Given (Typed line) out) now = tt
call-last (Given EndOfInput out) now = tt
call-last (Given (Turn k) out) now = tt
call-last (Given (Break k kind) out) now = tt
call-last LongLine now = tt

pub asked-more : (is_full : Bool) (w : WorldState) (taken : List TakenItem) (listed : List Call) (last : WorldState) (item : TakenItem) (more : List Call) → AreAsked is_full w taken listed
    → Runs w (taken_events taken) (taken_outs taken) last → IsAsked is_full last item more → (is_full ≡ true → AreNoStarts more) → AreAsked is_full w (taken ++ item ∷ []) (listed ++ more)
asked-more is_full w [] listed last item more asked run next full = (more, [], ap (λ xs. xs ++ more) asked ∙ sym (append-nil more), rw run at next, call-last item more, refl)
asked-more is_full w (Given event out ∷ taken) listed last item more asked run next full = (
  asked.0,
  asked.1 ++ more,
  ap (λ xs. xs ++ more) asked.2 ∙ append_assoc asked.0 asked.1 more,
  asked.3,
  call-more is_full w (Given event out) asked.0 asked.1 more asked.3 asked.4 full,
  asked-more is_full (world_after_item w (Given event out)) taken asked.1 last item more asked.5 run.1 next full,
)
asked-more is_full w (LongLine ∷ taken) listed last item more asked run next full = (
  asked.0,
  asked.1 ++ more,
  ap (λ xs. xs ++ more) asked.2 ∙ append_assoc asked.0 asked.1 more,
  asked.3,
  tt,
  asked-more is_full w taken asked.1 last item more asked.5 run next full,
)

-- a launcher that is full stays full
lists-full : (was_full is_full : Bool) (request : Option Request) (reply : Reply) (listed : List Call) → (was_full ≡ true → is_full ≡ true) → ListsOf was_full request reply listed
    → ListsOf is_full request reply listed
lists-full was_full is_full None reply listed stays lists = lists
lists-full was_full is_full (Some request) reply listed stays (fit, inl here) = (fit, inl here)
lists-full was_full is_full (Some request) reply listed stays (fit, inr none) = (fit, inr (none.0, none.1, none.2, stays none.3))

item-full : (was_full is_full : Bool) (w : WorldState) (item : TakenItem) (listed : List Call) → (was_full ≡ true → is_full ≡ true) → IsAsked was_full w item listed → IsAsked is_full w item listed
item-full was_full is_full w (Given (Typed line) out) listed stays asked = asked
item-full was_full is_full w (Given EndOfInput out) listed stays asked = asked
item-full was_full is_full w (Given (Turn k) out) listed stays asked = asked
item-full was_full is_full w (Given (Break k kind) out) listed stays asked = asked
item-full was_full is_full w (Given (Answer k reply) out) listed stays asked = lists-full was_full is_full (pending_of w k) reply listed stays asked
item-full was_full is_full w LongLine listed stays asked = asked

pub asked-full : (was_full is_full : Bool) (w : WorldState) (taken : List TakenItem) (listed : List Call) → (was_full ≡ true → is_full ≡ true) → AreAsked was_full w taken listed
    → AreAsked is_full w taken listed
asked-full was_full is_full w [] listed stays asked = asked
asked-full was_full is_full w (item ∷ taken) listed stays asked = (
  asked.0,
  asked.1,
  asked.2,
  item-full was_full is_full w item asked.0 stays asked.3,
  asked.4,
  asked-full was_full is_full (world_after_item w item) taken asked.1 stays asked.5,
)

parted-calls : (calls now later more listed : List Call) → listed ≡ now ++ later → calls ++ (listed ++ more) ≡ (calls ++ now) ++ (later ++ more)
parted-calls calls now later more listed is = rw (is, append_assoc now later more, append_assoc calls now (later ++ more)) refl

-- the world and the list agree along it, whether the launcher is full or not
pub along-full : (was_full is_full : Bool) (w : WorldState) (calls : List Call) (taken : List TakenItem) (listed : List Call) (stays : was_full ≡ true → is_full ≡ true) (asked : AreAsked was_full w taken listed)
    → AgreesThroughout was_full w calls taken listed asked → AgreesThroughout is_full w calls taken listed (asked-full was_full is_full w taken listed stays asked)
unfolding asked-full
along-full was_full is_full w calls [] listed stays asked along = along
along-full was_full is_full w calls (item ∷ taken) listed stays asked along =
    (along.0, along-full was_full is_full (world_after_item w item) (calls ++ asked.0) taken asked.1 stays asked.5 along.1)

-- and with one more after it, if they agree
pub along-more : (is_full : Bool) (w : WorldState) (calls : List Call) (taken : List TakenItem) (listed : List Call) (last : WorldState) (item : TakenItem) (more calls_now : List Call) (asked : AreAsked is_full w taken listed)
    (run : Runs w (taken_events taken) (taken_outs taken) last) (next : IsAsked is_full last item more) (full : is_full ≡ true → AreNoStarts more) → AgreesThroughout is_full w calls taken listed asked → calls_now ≡ calls ++ (listed ++ more)
    → Agrees (world_after_item last item) calls_now → AgreesThroughout is_full w calls (taken ++ item ∷ []) (listed ++ more) (asked-more is_full w taken listed last item more asked run next full)
unfolding asked-more
along-more is_full w calls [] listed last item more calls_now asked run next full along is agrees = (along, rw (is, asked, run) at agrees)
along-more is_full w calls (Given event out ∷ taken) listed last item more calls_now asked run next full along is agrees = (
  along.0,
  along-more is_full (world_after_item w (Given event out)) (calls ++ asked.0) taken asked.1 last item more calls_now asked.5 run.1 next full along.1
      (is ∙ parted-calls calls asked.0 asked.1 more listed asked.2) agrees,
)
along-more is_full w calls (LongLine ∷ taken) listed last item more calls_now asked run next full along is agrees = (
  along.0,
  along-more is_full w (calls ++ asked.0) taken asked.1 last item more calls_now asked.5 run next full along.1
      (is ∙ parted-calls calls asked.0 asked.1 more listed asked.2) agrees,
)

pub lines-more : (bytes : List ℕ) (taken : List TakenItem) (item : TakenItem) → AreRead bytes taken → IsNext (rest_after_items bytes taken) item → AreRead bytes (taken ++ item ∷ [])
lines-more bytes [] item lines next = (next, tt)
lines-more bytes (first ∷ taken) item lines next = (lines.0, lines-more (rest_after_item bytes first) taken item lines.1 next)

pub left-more : (bytes : List ℕ) (taken : List TakenItem) (item : TakenItem) → rest_after_items bytes (taken ++ item ∷ []) ≡ rest_after_item (rest_after_items bytes taken) item
left-more bytes [] item = refl
left-more bytes (first ∷ taken) item = left-more (rest_after_item bytes first) taken item

pub written-more : (taken : List TakenItem) (item : TakenItem) → written_bytes (taken ++ item ∷ []) ≡ written_bytes taken ++ bytes_of item
written-more [] item = append-nil (bytes_of item)
written-more (first ∷ taken) item = ap (λ xs. bytes_of first ++ xs) (written-more taken item) ∙ sym (append_assoc (bytes_of first) (written_bytes taken) (bytes_of item))

pub count-more : (taken : List TakenItem) (item : TakenItem) → length (taken ++ item ∷ []) ≡ length taken + 1
count-more taken item = length-append taken (item ∷ [])
