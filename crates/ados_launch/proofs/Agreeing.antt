-- The world and the launcher's list agree after each event.
use Rattle.std.proofs.Common.{arith, ◌≡◌, ◌≢◌, ℕ, ◌<◌, List, [], ◌++◌, Bool, true, false, Option, Some, None, Ok, refl, sym, ap, ◌∙◌, inl, inr, subst, get_or, length, slice_set, append-nil}
use Rattle.std.proofs.lemmas.Bool.{cases_eq}
use Rattle.std.proofs.lemmas.Grind.{common_steps}
use Rattle.std.proofs.lemmas.List.{get_or-set_same, get_or-set_other}
use Rattle.ados_machine.specs.declared.answers.Answer.{Answer as Reply}
use Rattle.ados_machine.specs.declared.children.ChildState.{ChildState}
use Rattle.ados_machine.specs.declared.children.ChildState.TheVariants.{Closed, Reading, Waiting, Cut}
use Rattle.ados_machine.specs.declared.events.Event.{Event}
use Rattle.ados_machine.specs.declared.events.Event.TheVariants.{Answer}
use Rattle.ados_machine.specs.declared.outs.Out.{Out}
use Rattle.ados_machine.specs.declared.requests.Request.{Request}
use Rattle.ados_machine.specs.declared.requests.Request.TheVariants.{Start, Read, Wait}
use Rattle.ados_machine.specs.Children.{child_after_answer, child_in, is_asked, is_launchers, is_marked, shell_named}
use Rattle.ados_machine.specs.Items.{TraceItem}
use Rattle.ados_machine.specs.FrameEnds.{IsSane}
use Rattle.ados_machine.specs.Runs.{IsResponse, resulting_world}
use Rattle.ados_machine.specs.Step.{Response, Accepted, Refused, step_of}
use Rattle.ados_machine.specs.World.{WorldState, pending_of}
use Rattle.ados_machine.proofs.KeptChildren.{turns-keep}
use Rattle.ados_machine.proofs.MovedChildren.{answers-move}
use Rattle.ados_machine.proofs.ChildLemmas.{request-names, requests-are}
use Rattle.ados_launcher.specs.declared.calls.Call.{Call}
use Rattle.ados_launcher.specs.Lifecycles.{Broken, lifecycle_of, lifecycle_for_state, lifecycle_after_call, is_open, state_of}
use Rattle.ados_launch.specs.Agreement.{Agrees, AreWhole, IsOpenTable}
use Rattle.ados_launch.specs.Asked.{LauncherAnswers, Asks, IsTaken, Lists, MayAsk, call_of}
use Rattle.ados_launch.specs.Rounds.{asks_read_or_wait}
use Rattle.ados_launch.proofs.NextCall.{asked-start, lifecycle-more, lifecycle-here, lifecycle-there, may-ask, unmarked}

-- the response to an event that was accepted
pub record IsAccepted (now : WorldState) (out : Out) (response : Response) : Type 0 where
  pub items : List (ℕ × TraceItem)
  pub is : response ≡ Accepted now out items

pub accepted-is : (w now : WorldState) (event : Event) (out : Out) (response : Response) → IsResponse event (Ok out) response → now ≡ resulting_world w (Ok out) response →
    IsAccepted now out response
accepted-is w now event out (Accepted world given items) answer world_is = record { items = items; is = rw (world_is, answer) refl }
accepted-is w now event out (Refused why) answer world_is = absurd answer

-- an event that is not a launcher's answer keeps all sequences
event-agrees : (w now : WorldState) (event : Event) (out : Out) (calls : List Call) → Agrees w calls → is_launchers event ≡ false →
    IsAccepted now out (step_of w event) → Agrees now calls
event-agrees w now event out calls agrees other accepted k =
    agrees k ∙ ap lifecycle_for_state (sym (turns-keep w event now out accepted.items other accepted.is k))

pub given-agrees : (w now : WorldState) (event : Event) (out : Out) (calls : List Call) → Agrees w calls → is_launchers event ≡ false →
    IsResponse event (Ok out) (step_of w event) → now ≡ resulting_world w (Ok out) (step_of w event) → Agrees now calls
given-agrees w now event out calls agrees other answer world =
    event-agrees w now event out calls agrees other (accepted-is w now event out (step_of w event) answer world)

-- if the world does not change
pub same-agrees : (w now : WorldState) (calls : List Call) → Agrees w calls → now ≡ w → Agrees now calls
same-agrees w now calls agrees same = rw same agrees

-- the child of the shell that asks is in a state in which this may be asked
asked-of : (w : WorldState) (k : ℕ) (request : Request) → pending_of w k ≡ Some request → is_asked (Some request) (child_in w k) ≡ true
asked-of w k request asked = subst (λ p. is_asked p (child_in w k) ≡ true) asked (requests-are w k)

-- the sequence of the child for which a request is made
sequence-here : (w : WorldState) (k : ℕ) (is_full : Bool) (request : Request) (reply : Reply) (calls listed : List Call) → Agrees w calls → pending_of w k ≡ Some request →
    shell_named request ≡ k → Lists is_full request reply listed → lifecycle_of k (calls ++ listed) ≡ lifecycle_for_state (child_after_answer (is_marked w k) request reply)
sequence-here w k is_full request reply calls listed agrees asked named (fit, inl listed_is) =
    rw listed_is (lifecycle-more k calls (call_of request reply)
    ∙ (ap (λ lifecycle. lifecycle_after_call k lifecycle (call_of request reply)) (agrees k)
    ∙ lifecycle-here k (is_marked w k) request reply (child_in w k) named fit (asked-of w k request asked)))
sequence-here w k is_full (Start job) reply calls listed agrees asked named (fit, inr none) =
    rw (none.0, none.2, append-nil) (agrees k ∙ ap lifecycle_for_state (asked-start job (child_in w k) (asked-of w k (Start job) asked)))
sequence-here w k is_full (Read n) reply calls listed agrees asked named (fit, inr none) = let no = none.1 in cc
sequence-here w k is_full (Wait n) reply calls listed agrees asked named (fit, inr none) = let no = none.1 in cc

-- the sequences of the other children
sequence-there : (k j : ℕ) (is_full : Bool) (request : Request) (reply : Reply) (calls listed : List Call) → shell_named request ≡ k → Lists is_full request reply listed → j ≢ k →
    lifecycle_of j (calls ++ listed) ≡ lifecycle_of j calls
sequence-there k j is_full request reply calls listed named (fit, inl listed_is) apart =
    rw listed_is (lifecycle-more j calls (call_of request reply) ∙ lifecycle-there j k request reply (lifecycle_of j calls) named apart)
sequence-there k j is_full request reply calls listed named (fit, inr none) apart = rw (none.0, append-nil) refl

-- an answer that the world takes
answer-agrees : (w now : WorldState) (k : ℕ) (is_full : Bool) (request : Request) (reply : Reply) (out : Out) (calls listed : List Call) → IsSane w → Agrees w calls →
    pending_of w k ≡ Some request → Lists is_full request reply listed → IsAccepted now out (step_of w (Answer k reply)) → Agrees now (calls ++ listed)
answer-agrees w now k is_full request reply out calls listed sane agrees asked lists accepted j =
    let moves = answers-move w k request reply now out accepted.items sane asked accepted.is in
    let named = request-names w k request sane asked in
    elim (cases_eq j k) [
      | inl same ↦ subst (λ n. lifecycle_of n (calls ++ listed) ≡ lifecycle_for_state (child_in now n)) (sym same)
          (sequence-here w k is_full request reply calls listed agrees asked named lists ∙ ap lifecycle_for_state (sym moves.own))
      | inr apart ↦ sequence-there k j is_full request reply calls listed named lists apart ∙ (agrees j ∙ ap lifecycle_for_state (sym (moves.children j apart)))
    ]

-- if its answer was taken, the world and the list agree
pub answers-agree : (w now : WorldState) (k : ℕ) (was_full is_full : Bool) (calls calls_now : List Call) (out : Out) → IsSane w → Agrees w calls →
    LauncherAnswers w k was_full is_full calls calls_now (IsTaken w k now out) → Agrees now calls_now
answers-agree w now k was_full is_full calls calls_now out sane agrees a =
    rw a.asks.calls_are (answer-agrees w now k is_full a.request a.reply out calls a.asks.listed sane agrees a.pending_is a.asks.lists
    (accepted-is w now (Answer k a.reply) out (step_of w (Answer k a.reply)) a.led_to.0 a.led_to.1))

-- an answer that the world did not take, once it is given
pub untaken-agrees : (w : WorldState) (k : ℕ) (was_full is_full : Bool) (calls calls_now : List Call) (request : Request) (reply : Reply) (out : Out) → IsSane w → Agrees w calls →
    pending_of w k ≡ Some request → Asks request reply was_full is_full calls calls_now → IsResponse (Answer k reply) (Ok out) (step_of w (Answer k reply)) →
    Agrees (resulting_world w (Ok out) (step_of w (Answer k reply))) calls_now
untaken-agrees w k was_full is_full calls calls_now request reply out sane agrees asked asks is =
    rw asks.calls_are (answer-agrees w (resulting_world w (Ok out) (step_of w (Answer k reply))) k is_full request reply out calls asks.listed sane agrees asked asks.lists
    (accepted-is w (resulting_world w (Ok out) (step_of w (Answer k reply))) (Answer k reply) out (step_of w (Answer k reply)) is refl))

whole-in : (state : ChildState) → lifecycle_for_state state ≢ Broken
whole-in Closed e = cc
whole-in Reading e = cc
whole-in Waiting e = cc
whole-in Cut e = cc

pub agrees-whole : (w : WorldState) (calls : List Call) → Agrees w calls → AreWhole calls
agrees-whole w calls agrees k e = whole-in (child_in w k) (sym (agrees k) ∙ e)

-- after a call each sequence is whole, whatever became of its answer
asked-whole : (w : WorldState) (k : ℕ) (was_full is_full : Bool) (request : Request) (reply : Reply) (calls calls_now : List Call) → IsSane w → Agrees w calls →
    pending_of w k ≡ Some request → Asks request reply was_full is_full calls calls_now → AreWhole calls_now
asked-whole w k was_full is_full request reply calls calls_now sane agrees asked asks j e =
    let named = request-names w k request sane asked in
    let is : lifecycle_of j (calls ++ asks.listed) ≡ Broken = ap (lifecycle_of j) (sym asks.calls_are) ∙ e in
    elim (cases_eq j k) [
      | inl same ↦ whole-in (child_after_answer (is_marked w k) request reply)
          (sym (sequence-here w k is_full request reply calls asks.listed agrees asked named asks.lists) ∙ subst (λ n. lifecycle_of n (calls ++ asks.listed) ≡ Broken) same is)
      | inr apart ↦ agrees-whole w calls agrees j (sym (sequence-there k j is_full request reply calls asks.listed named asks.lists apart) ∙ is)
    ]

-- what a launcher's preconditions need
pub state-asked : (w : WorldState) (k : ℕ) (request : Request) (calls : List Call) → IsSane w → Agrees w calls → pending_of w k ≡ Some request →
    MayAsk request (state_of (shell_named request) calls)
state-asked w k request calls sane agrees asked =
    rw (request-names w k request sane asked) (may-ask k calls request (child_in w k) (asked-of w k request asked) (agrees k))

pub number-asked : (w : WorldState) (k : ℕ) (request : Request) → IsSane w → pending_of w k ≡ Some request → k < 21 → shell_named request < 21
number-asked w k request sane asked few = rw (request-names w k request sane asked) few

-- the table after a call
sequences-asked : (w : WorldState) (k : ℕ) (was_full is_full b : Bool) (request : Request) (reply : Reply) (calls calls_now : List Call) (table : List Bool) → IsSane w → Agrees w calls →
    IsOpenTable table calls → k < length table → pending_of w k ≡ Some request → Asks request reply was_full is_full calls calls_now →
    b ≡ is_open (lifecycle_for_state (child_after_answer false request reply)) → (j : ℕ) → get_or (slice_set table k b) j false ≡ is_open (lifecycle_of j calls_now)
sequences-asked w k was_full is_full b request reply calls calls_now table sane agrees opened few asked asks is j =
    let named = request-names w k request sane asked in
    rw asks.calls_are
    (elim (cases_eq j k) [
      | inl same ↦ subst (λ n. get_or (slice_set table k b) n false ≡ is_open (lifecycle_of n (calls ++ asks.listed))) (sym same)
          (get_or-set_same table k b false few ∙ (is ∙ ap is_open (sym (sequence-here w k is_full request reply calls asks.listed agrees asked named asks.lists ∙ unmarked (is_marked w k) request reply))))
      | inr apart ↦ get_or-set_other table k j b false apart ∙ (opened.1 j ∙ ap is_open (sym (sequence-there k j is_full request reply calls asks.listed named asks.lists apart)))
    ])

pub table-asked : (w : WorldState) (k : ℕ) (was_full is_full b : Bool) (request : Request) (reply : Reply) (calls calls_now : List Call) (table : List Bool) → IsSane w → Agrees w calls →
    IsOpenTable table calls → k < length table → pending_of w k ≡ Some request → Asks request reply was_full is_full calls calls_now →
    b ≡ is_open (lifecycle_for_state (child_after_answer false request reply)) → IsOpenTable (slice_set table k b) calls_now
table-asked w k was_full is_full b request reply calls calls_now table sane agrees opened few asked asks is = (
  asked-whole w k was_full is_full request reply calls calls_now sane agrees asked asks,
  sequences-asked w k was_full is_full b request reply calls calls_now table sane agrees opened few asked asks is,
)

pub further-open : (request : Option Request) (state : ChildState) → is_asked request state ≡ true → asks_read_or_wait request ≡ is_open (lifecycle_for_state state)
further-open None state asked = grind (arith, common_steps)
further-open (Some (Start job)) state asked = grind (arith, common_steps)
further-open (Some (Read n)) state asked = grind (arith, common_steps)
further-open (Some (Wait n)) state asked = grind (arith, common_steps)

-- the table of the open children according to what the shells ask for
pub table-begins : (w : WorldState) (calls : List Call) (table : List Bool) → Agrees w calls → ((k : ℕ) → get_or table k false ≡ asks_read_or_wait (pending_of w k)) → IsOpenTable table calls
table-begins w calls table agrees filled =
    (agrees-whole w calls agrees, λ k. filled k ∙ (further-open (pending_of w k) (child_in w k) (requests-are w k) ∙ ap is_open (sym (agrees k))))

-- a world that asks for nothing, as a fresh one does, and a launcher without a call
pub new-pair : (w : WorldState) (calls : List Call) → ((k : ℕ) → child_in w k ≡ Closed) → calls ≡ [] → Agrees w calls
new-pair w calls none new k = rw (new, none k) refl
