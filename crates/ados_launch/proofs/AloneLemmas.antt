-- How far a line that runs alone has got.
use Rattle.std.proofs.Common.{◌≡◌, ℕ, suc, ◌+◌, ◌≤◌, List, [], ◌∷◌, ◌++◌, Bool, true, Option, Some, None, Ok, is_some, length, arith, refl, ap, sym, ◌∙◌, inl, inr, append_assoc, append-nil}
use Rattle.std.proofs.lemmas.Bool.{cases_eq}
use Rattle.ados_text.specs.Text.{Bytes, Text}
use Rattle.ados_machine.specs.declared.answers.Answer.{Answer as Reply}
use Rattle.ados_machine.specs.declared.events.Event.{Event}
use Rattle.ados_machine.specs.declared.events.Event.TheVariants.{Typed, EndOfInput, Turn, Answer, Break}
use Rattle.ados_machine.specs.declared.events.BreakKind.{BreakKind}
use Rattle.ados_machine.specs.declared.outs.Out.{Out}
use Rattle.ados_machine.specs.declared.requests.Request.{Request}
use Rattle.ados_machine.specs.Alone.{AreOf, exec_alone, bytes_of_outs}
use Rattle.ados_machine.specs.Children.{child_of_shell, child_in}
use Rattle.ados_machine.specs.Numbers.{free_number}
use Rattle.ados_machine.specs.Requests.{request_of}
use Rattle.ados_machine.specs.Runs.{IsResponse, Runs, resulting_world}
use Rattle.ados_machine.specs.Shells.{ShellState}
use Rattle.ados_machine.specs.Step.{Response, Accepted, Refused, is_accepted, step_of}
use Rattle.ados_machine.specs.LoneShell.{world_with_opened, opened_shell}
use Rattle.ados_machine.specs.World.{WorldState, numbered_shell, request_of_shell, pending_of}
use Rattle.ados_machine.proofs.Loops.{IsTaken, alone-turn, alone-reply, pending-hosted, turn-taken}
use Rattle.ados_machine.proofs.Shells.{IsFree, found, found-set_other, free-number}
use Rattle.ados_machine.proofs.Systems.{opened-stands}
use Rattle.ados_launcher.specs.declared.calls.Call.{Call}
use Rattle.ados_launcher.specs.Lifecycles.{lifecycle_for_state}
use Rattle.ados_launch.specs.Agreement.{Agrees}
use Rattle.ados_launch.specs.Alone.{IsNextOf, IsUntaken, TakesNext}
use Rattle.ados_launch.specs.Asked.{AreAsked, Asks}
use Rattle.ados_launch.specs.Taken.{TakenItem, Given, LongLine, taken_events, taken_outs}

none-at : (shells : List (Option ShellState)) (k : ℕ) → IsFree shells (Some k) → found shells k ≡ None
none-at shells k free = rw (free.1, free.2) refl

-- a shell that was just opened has no child, and before it there was none at its number
opened-child : (w : WorldState) (k : ℕ) (commands : List Text) (j : ℕ) → free_number w.shells ≡ Some k → child_in (world_with_opened w k commands) j ≡ child_in w j
opened-child w k commands j free =
    let is : IsFree w.shells (Some k) = rw free at (free-number w.shells) in
    elim (cases_eq j k) [
      | inl same ↦ rw same (ap child_of_shell (opened-stands w k commands free) ∙ sym (ap child_of_shell (none-at w.shells k is)))
      | inr apart ↦ ap child_of_shell (found-set_other w.shells k (Some (opened_shell k commands)) j apart (omega (arith, is.1)))
    ]

-- so the launcher's list agrees with the world as before
pub opened-agrees : (w : WorldState) (k : ℕ) (commands : List Text) (calls : List Call) → free_number w.shells ≡ Some k → Agrees w calls → Agrees (world_with_opened w k commands) calls
opened-agrees w k commands calls free agrees j = agrees j ∙ ap lifecycle_for_state (sym (opened-child w k commands j free))

-- the answers in an event
abbrev pub replies_in : Event → List Reply
replies_in (Answer k reply) = reply ∷ []
replies_in (Turn k) = []
replies_in (Typed line) = []
replies_in EndOfInput = []
replies_in (Break k kind) = []

accepted-of : (response : Response) → IsTaken response → is_accepted response ≡ true
accepted-of (Refused why) taken = absurd taken
accepted-of (Accepted world out items) taken = refl

turn-by : (w : WorldState) (k : ℕ) (o : Option ShellState) → 2 ≤ k → numbered_shell w k ≡ o → is_some o ≡ true → request_of_shell o ≡ None → is_accepted (step_of w (Turn k)) ≡ true
turn-by w k None above runs some asks = cc
turn-by w k (Some shell) above runs some asks =
    accepted-of (step_of w (Turn k)) (turn-taken w k shell above runs (sym (pending-hosted shell.parts.number shell.phase) ∙ ap is_some asks))

-- a background shell that asks for nothing can take a turn
pub turn-on : (w : WorldState) (k : ℕ) → 2 ≤ k → is_some (numbered_shell w k) ≡ true → pending_of w k ≡ None → is_accepted (step_of w (Turn k)) ≡ true
turn-on w k above runs asks = turn-by w k (numbered_shell w k) above refl runs asks

pub turn-takes : (w now : WorldState) (k : ℕ) (is_full : Bool) (calls : List Call) (out : Out) → pending_of w k ≡ None →
    IsResponse (Turn k) (Ok out) (step_of w (Turn k)) → now ≡ resulting_world w (Ok out) (step_of w (Turn k)) → TakesNext k w is_full calls now calls out
turn-takes w now k is_full calls out asks answer world = record {
  event = Turn k;
  listed = [];
  is_next = rw asks refl;
  accepted = answer;
  world_is = world;
  asked = refl;
  when_full = λ full. tt;
  calls_are = sym (append-nil calls);
}

pub answer-takes : (w now : WorldState) (k : ℕ) (was_full is_full : Bool) (calls calls_now : List Call) (request : Request) (reply : Reply) (out : Out) →
    pending_of w k ≡ Some request → Asks request reply was_full is_full calls calls_now →
    IsResponse (Answer k reply) (Ok out) (step_of w (Answer k reply)) → now ≡ resulting_world w (Ok out) (step_of w (Answer k reply)) →
    TakesNext k w is_full calls now calls_now out
answer-takes w now k was_full is_full calls calls_now request reply out asked asks answer world = record {
  event = Answer k reply;
  listed = asks.listed;
  is_next = rw asked refl;
  accepted = answer;
  world_is = world;
  asked = rw asked asks.lists;
  when_full = asks.when_full;
  calls_are = asks.calls_are;
}

-- an answer that was not taken
pub answer-untaken : (w : WorldState) (k : ℕ) (was_full is_full : Bool) (calls calls_now : List Call) (request : Request) (reply : Reply) →
    pending_of w k ≡ Some request → Asks request reply was_full is_full calls calls_now →
    (others : List Call) × IsUntaken is_full w k (Some reply) others × (calls_now ≡ calls ++ others)
answer-untaken w k was_full is_full calls calls_now request reply asked asks = (asks.listed, rw asked asks.lists, asks.calls_are)

pub turn-untaken : (w : WorldState) (k : ℕ) (is_full : Bool) (calls : List Call) →
    (others : List Call) × IsUntaken is_full w k None others × (calls ≡ calls ++ others)
turn-untaken w k is_full calls = ([], refl, sym (append-nil calls))

-- this many events were taken, and the steps of the shell that runs alone go on from here, whatever answers come
pub record Going (k : ℕ) (w : WorldState) (line : Text) (turns n : ℕ) (is_full : Bool) (world : WorldState) (before now : Bytes) (calls calls_now : List Call) : Type 0 where
  pub taken : List TakenItem
  pub answers : List Reply
  pub listed : List Call
  pub run : Runs (world_with_opened w k (line ∷ [])) (taken_events taken) (taken_outs taken) world
  pub events_are : AreOf k (taken_events taken) answers []
  pub asked : AreAsked is_full (world_with_opened w k (line ∷ [])) taken listed
  pub calls_are : calls_now ≡ calls ++ listed
  pub count : length (taken_events taken) ≡ n
  pub printed : now ≡ before ++ bytes_of_outs (taken_outs taken)
  pub steps : (left : ℕ) → left + n ≡ turns → (rest : List Reply) →
      exec_alone k turns (answers ++ rest) (world_with_opened w k (line ∷ [])) before ≡ exec_alone k left rest world now

pub going-none : (k : ℕ) (w : WorldState) (line : Text) (turns : ℕ) (is_full : Bool) (world : WorldState) (before : Bytes) (calls : List Call) →
    world ≡ world_with_opened w k (line ∷ []) → Going k w line turns 0 is_full world before before calls calls
going-none k w line turns is_full world before calls is = record {
  taken = [];
  answers = [];
  listed = [];
  run = is;
  events_are = refl;
  asked = refl;
  calls_are = sym (append-nil calls);
  count = refl;
  printed = sym (append-nil before);
  steps = λ left all rest.
      let same : left ≡ turns = omega (arith, all) in
      rw (is, same) refl;
}

typed-next : (pending : Option Request) (k : ℕ) (line : Text) → IsNextOf k pending (Typed line) → ⊥
typed-next None k line is = is
typed-next (Some request) k line is = is

end-next : (pending : Option Request) (k : ℕ) → IsNextOf k pending EndOfInput → ⊥
end-next None k is = is
end-next (Some request) k is = is

break-next : (pending : Option Request) (k j : ℕ) (kind : BreakKind) → IsNextOf k pending (Break j kind) → ⊥
break-next None k j kind is = is
break-next (Some request) k j kind is = is

turn-next : (pending : Option Request) (k j : ℕ) → IsNextOf k pending (Turn j) → (pending ≡ None) × (j ≡ k)
turn-next None k j is = (refl, is)
turn-next (Some request) k j is = absurd is

answer-next : (pending : Option Request) (k j : ℕ) (reply : Reply) → IsNextOf k pending (Answer j reply) → (is_some pending ≡ true) × (j ≡ k)
answer-next None k j reply is = absurd is
answer-next (Some request) k j reply is = (refl, is)

-- one more event of the shell that runs alone
steps-by : (k n : ℕ) (w : WorldState) (event : Event) (out : Out) (printed : Bytes) (shell : ShellState) → numbered_shell w k ≡ Some shell →
    IsNextOf k (request_of shell.parts.number shell.phase) event → IsResponse event (Ok out) (step_of w event) → (rest : List Reply) →
    exec_alone k (suc n) (replies_in event ++ rest) w printed ≡ exec_alone k n rest (resulting_world w (Ok out) (step_of w event)) (printed ++ out.bytes)
steps-by k n w (Turn j) out printed shell runs is accepted rest =
    let next = turn-next (request_of shell.parts.number shell.phase) k j is in
    rw next.1 (alone-turn k n rest w printed shell out runs
    (sym (pending-hosted shell.parts.number shell.phase) ∙ ap is_some next.0) (rw next.1 at accepted))
steps-by k n w (Answer j reply) out printed shell runs is accepted rest =
    let next = answer-next (request_of shell.parts.number shell.phase) k j reply is in
    rw next.1 (alone-reply k n reply rest w printed shell out runs
    (sym (pending-hosted shell.parts.number shell.phase) ∙ next.0) (rw next.1 at accepted))
steps-by k n w (Typed line) out printed shell runs is accepted rest = absurd (typed-next (request_of shell.parts.number shell.phase) k line is)
steps-by k n w EndOfInput out printed shell runs is accepted rest = absurd (end-next (request_of shell.parts.number shell.phase) k is)
steps-by k n w (Break j kind) out printed shell runs is accepted rest = absurd (break-next (request_of shell.parts.number shell.phase) k j kind is)

pub steps-on : (k n : ℕ) (w : WorldState) (event : Event) (out : Out) (printed : Bytes) (o : Option ShellState) → numbered_shell w k ≡ o → is_some o ≡ true →
    IsNextOf k (request_of_shell o) event → IsResponse event (Ok out) (step_of w event) → (rest : List Reply) →
    exec_alone k (suc n) (replies_in event ++ rest) w printed ≡ exec_alone k n rest (resulting_world w (Ok out) (step_of w event)) (printed ++ out.bytes)
steps-on k n w event out printed None runs some is accepted rest = cc
steps-on k n w event out printed (Some shell) runs some is accepted rest = steps-by k n w event out printed shell runs is accepted rest

last-are : (k : ℕ) (event : Event) (pending : Option Request) → IsNextOf k pending event → AreOf k (event ∷ []) (replies_in event) []
last-are k (Turn j) pending is = ((turn-next pending k j is).1, refl)
last-are k (Answer j reply) pending is = ((answer-next pending k j reply is).1, refl, refl)
last-are k (Typed line) pending is = absurd (typed-next pending k line is)
last-are k EndOfInput pending is = absurd (end-next pending k is)
last-are k (Break j kind) pending is = absurd (break-next pending k j kind is)

pub are-more : (k : ℕ) (taken : List TakenItem) (answers : List Reply) (event : Event) (out : Out) (pending : Option Request) → AreOf k (taken_events taken) answers [] →
    IsNextOf k pending event → AreOf k (taken_events (taken ++ Given event out ∷ [])) (answers ++ replies_in event) []
are-more k [] answers event out pending are is = rw (sym are) (last-are k event pending is)
are-more k (Given (Turn j) given ∷ taken) answers event out pending are is = (are.0, are-more k taken answers event out pending are.1 is)
are-more k (Given (Answer j reply) given ∷ taken) [] event out pending are is = absurd are
are-more k (Given (Answer j reply) given ∷ taken) (first ∷ answers) event out pending are is =
    (are.0, are.1, are-more k taken answers event out pending are.2 is)
are-more k (Given (Typed line) given ∷ taken) answers event out pending are is = absurd are
are-more k (Given EndOfInput given ∷ taken) answers event out pending are is = absurd are
are-more k (Given (Break j kind) given ∷ taken) answers event out pending are is = absurd are
are-more k (LongLine ∷ taken) answers event out pending are is = are-more k taken answers event out pending are is

pub events-more : (taken : List TakenItem) (event : Event) (out : Out) → length (taken_events (taken ++ Given event out ∷ [])) ≡ length (taken_events taken) + 1
events-more [] event out = refl
events-more (Given first given ∷ taken) event out = let more = events-more taken event out in omega (arith, more)
events-more (LongLine ∷ taken) event out = events-more taken event out

pub bytes-more : (taken : List TakenItem) (event : Event) (out : Out) → bytes_of_outs (taken_outs (taken ++ Given event out ∷ [])) ≡ bytes_of_outs (taken_outs taken) ++ out.bytes
bytes-more [] event out = append-nil out.bytes
bytes-more (Given first given ∷ taken) event out =
    ap (λ bytes. given.bytes ++ bytes) (bytes-more taken event out) ∙ sym (append_assoc given.bytes (bytes_of_outs (taken_outs taken)) out.bytes)
bytes-more (LongLine ∷ taken) event out = bytes-more taken event out

pub printed-more : (before mid last bytes more now : Bytes) → mid ≡ before ++ bytes → last ≡ mid ++ more → now ≡ bytes ++ more → last ≡ before ++ now
printed-more before mid last bytes more now e f h = f ∙ (ap (λ xs. xs ++ more) e ∙ (append_assoc before bytes more ∙ ap (λ xs. before ++ xs) (sym h)))
