-- One more call: what it does to each sequence of lifecycles.
use Rattle.std.proofs.Common.{◌≡◌, ◌≢◌, ℕ, List, [], ◌∷◌, ◌++◌, Bool, true, false, Some, refl, sym, ◌∙◌, inl, inr, arith, fold, append-nil, ◌==◌}
use Rattle.std.specs.Prelude.{if◌then◌else◌, MatchBool}
use Rattle.std.proofs.lemmas.Bool.{cases_Bool}
use Rattle.std.proofs.lemmas.Grind.{common_steps}
use Rattle.std.proofs.lemmas.List.Sums.{fold-append}
use Rattle.ados_machine.specs.declared.answers.Answer.{Answer}
use Rattle.ados_machine.specs.declared.answers.Answer.TheVariants.{Memory}
use Rattle.ados_machine.specs.declared.children.ChildState.{ChildState}
use Rattle.ados_machine.specs.declared.children.ChildState.TheVariants.{Closed, Reading, Waiting, Cut}
use Rattle.ados_machine.specs.declared.requests.Job.{Job}
use Rattle.ados_machine.specs.declared.requests.Request.{Request}
use Rattle.ados_machine.specs.declared.requests.Request.TheVariants.{Start, Read, Wait}
use Rattle.ados_machine.specs.Children.{answers_start, answers_read, answers_wait, child_after_answer, child_after_read, child_after_start, fits, is_asked, shell_named}
use Rattle.ados_launcher.specs.declared.calls.Call.{Call}
use Rattle.ados_launcher.specs.declared.calls.Call.TheVariants.{Start as Starts, Read as Reads, Wait as Waits}
use Rattle.ados_launcher.specs.Lifecycles.{LifecycleState, Between, InReads, AfterReads, Broken, lifecycle_of, lifecycle_for_state, lifecycle_after_call, lifecycle_after_start, lifecycle_after_read, lifecycle_after_wait, state_of, next_child_state, is_open}
use Rattle.ados_launch.specs.Asked.{Asks, MayAsk, call_of}

pub lifecycle-more : (k : ℕ) (calls : List Call) (call : Call) → lifecycle_of k (calls ++ call ∷ []) ≡ lifecycle_after_call k (lifecycle_of k calls) call
lifecycle-more k calls call = fold-append (λ lifecycle c. lifecycle_after_call k lifecycle c) Between calls (call ∷ [])

-- a mark changes what is asked for next, and not the state of the sequence
unmarked-start : (marked : Bool) (reply : Answer) → lifecycle_for_state (child_after_start marked reply) ≡ lifecycle_for_state (child_after_start false reply)
unmarked-start true reply = grind (arith, common_steps)
unmarked-start false reply = refl

unmarked-read : (marked : Bool) (reply : Answer) → lifecycle_for_state (child_after_read marked reply) ≡ lifecycle_for_state (child_after_read false reply)
unmarked-read true reply = grind (arith, common_steps)
unmarked-read false reply = refl

pub unmarked : (marked : Bool) (request : Request) (reply : Answer) → lifecycle_for_state (child_after_answer marked request reply) ≡ lifecycle_for_state (child_after_answer false request reply)
unmarked marked (Start job) reply = unmarked-start marked reply
unmarked marked (Read n) reply = unmarked-read marked reply
unmarked marked (Wait n) reply = refl

-- the child for which a start, or a read, is asked
pub asked-start : (job : Job) (state : ChildState) → is_asked (Some (Start job)) state ≡ true → state ≡ Closed
asked-start job state asked = grind (arith, common_steps)

asked-read : (n : ℕ) (state : ChildState) → is_asked (Some (Read n)) state ≡ true → state ≡ Reading
asked-read n state asked = grind (arith, common_steps)

started : (k : ℕ) (job : Job) (reply : Answer) → job.shell ≡ k → answers_start reply ≡ true → lifecycle_after_call k Between (Starts job reply) ≡ lifecycle_for_state (child_after_start false reply)
started k job reply named fit = grind (arith, common_steps)

was-read : (k n : ℕ) (reply : Answer) → n ≡ k → answers_read reply ≡ true → lifecycle_after_call k InReads (Reads n reply) ≡ lifecycle_for_state (child_after_read false reply)
was-read k n reply named fit = grind (arith, common_steps)

waited : (k n : ℕ) (reply : Answer) (state : ChildState) → n ≡ k → answers_wait reply ≡ true → is_asked (Some (Wait n)) state ≡ true → lifecycle_after_call k (lifecycle_for_state state) (Waits n reply) ≡ Between
waited k n reply Closed named fit asked = cc
waited k n reply Reading named fit asked = cc
waited k n reply Waiting named fit asked = grind (arith, common_steps)
waited k n reply Cut named fit asked = grind (arith, common_steps)

-- the sequence of the child that is named
pub lifecycle-here : (k : ℕ) (marked : Bool) (request : Request) (reply : Answer) (state : ChildState) → shell_named request ≡ k → fits request reply ≡ true → is_asked (Some request) state ≡ true →
    lifecycle_after_call k (lifecycle_for_state state) (call_of request reply) ≡ lifecycle_for_state (child_after_answer marked request reply)
lifecycle-here k marked (Start job) reply state named fit asked = rw (asked-start job state asked) (started k job reply named fit ∙ sym (unmarked-start marked reply))
lifecycle-here k marked (Read n) reply state named fit asked = rw (asked-read n state asked) (was-read k n reply named fit ∙ sym (unmarked-read marked reply))
lifecycle-here k marked (Wait n) reply state named fit asked = waited k n reply state named fit asked

-- the other sequences are unchanged
pub lifecycle-there : (j k : ℕ) (request : Request) (reply : Answer) (lifecycle : LifecycleState) → shell_named request ≡ k → j ≢ k → lifecycle_after_call j lifecycle (call_of request reply) ≡ lifecycle
lifecycle-there j k (Start job) reply lifecycle named apart = grind (arith, common_steps)
lifecycle-there j k (Read n) reply lifecycle named apart = grind (arith, common_steps)
lifecycle-there j k (Wait n) reply lifecycle named apart = grind (arith, common_steps)

-- what a launcher's preconditions need, by the sequence
abbrev IsStateOf : LifecycleState → ChildState → Type 0
IsStateOf Between state = state ≡ Closed
IsStateOf InReads state = state ≡ Reading
IsStateOf AfterReads state = state ≡ Waiting
IsStateOf Broken state = Unit {0}

state-in : (state : ChildState) → state ≢ Cut → IsStateOf (lifecycle_for_state state) state
state-in Closed apart = refl
state-in Reading apart = refl
state-in Waiting apart = refl
state-in Cut apart = absurd (apart refl)

-- a launcher does not know about marks
start-known : (reply : Answer) → child_after_start false reply ≢ Cut
start-known reply e = grind (arith, common_steps)

read-known : (reply : Answer) → child_after_read false reply ≢ Cut
read-known reply e = grind (arith, common_steps)

start-state : (lifecycle : LifecycleState) (state : ChildState) (reply : Answer) → IsStateOf lifecycle state → IsStateOf (lifecycle_after_start lifecycle reply) (child_after_start false reply)
start-state Between state reply h = elim (cases_Bool (answers_start reply)) [ inl on ↦ rw on (state-in (child_after_start false reply) (start-known reply)) | inr off ↦ rw off tt ]
start-state InReads state reply h = tt
start-state AfterReads state reply h = tt
start-state Broken state reply h = tt

read-state : (lifecycle : LifecycleState) (state : ChildState) (reply : Answer) → IsStateOf lifecycle state → IsStateOf (lifecycle_after_read lifecycle reply) (child_after_read false reply)
read-state InReads state reply h = elim (cases_Bool (answers_read reply)) [ inl on ↦ rw on (state-in (child_after_read false reply) (read-known reply)) | inr off ↦ rw off tt ]
read-state Between state reply h = tt
read-state AfterReads state reply h = tt
read-state Broken state reply h = tt

wait-state : (lifecycle : LifecycleState) (state : ChildState) (reply : Answer) → IsStateOf lifecycle state → IsStateOf (lifecycle_after_wait lifecycle reply) Closed
wait-state AfterReads state reply h = elim (cases_Bool (answers_wait reply)) [ inl on ↦ rw on refl | inr off ↦ rw off tt ]
wait-state InReads state reply h = elim (cases_Bool (answers_wait reply)) [ inl on ↦ rw on refl | inr off ↦ rw off tt ]
wait-state Between state reply h = tt
wait-state Broken state reply h = tt

chosen-state : (b : Bool) (lifecycle other : LifecycleState) (state another : ChildState) → IsStateOf lifecycle state → IsStateOf other another →
    IsStateOf (if b then lifecycle else other) (if b then state else another)
chosen-state true lifecycle other state another h i = h
chosen-state false lifecycle other state another h i = i

after-state : (k : ℕ) (lifecycle : LifecycleState) (state : ChildState) (call : Call) → IsStateOf lifecycle state → IsStateOf (lifecycle_after_call k lifecycle call) (next_child_state k state call)
after-state k lifecycle state (Starts job reply) h = chosen-state (job.shell == k) (lifecycle_after_start lifecycle reply) lifecycle (child_after_start false reply) state (start-state lifecycle state reply h) h
after-state k lifecycle state (Reads n reply) h = chosen-state (n == k) (lifecycle_after_read lifecycle reply) lifecycle (child_after_read false reply) state (read-state lifecycle state reply h) h
after-state k lifecycle state (Waits n reply) h = chosen-state (n == k) (lifecycle_after_wait lifecycle reply) lifecycle Closed state (wait-state lifecycle state reply h) h

all-state : (k : ℕ) (lifecycle : LifecycleState) (state : ChildState) (calls : List Call) → IsStateOf lifecycle state →
    IsStateOf (fold (λ lifecycle c. lifecycle_after_call k lifecycle c) lifecycle calls) (fold (λ state c. next_child_state k state c) state calls)
all-state k lifecycle state [] h = h
all-state k lifecycle state (call ∷ calls) h = all-state k (lifecycle_after_call k lifecycle call) (next_child_state k state call) calls (after-state k lifecycle state call h)

may-by : (request : Request) (state other : ChildState) (lifecycle : LifecycleState) → is_asked (Some request) state ≡ true → lifecycle ≡ lifecycle_for_state state → IsStateOf lifecycle other → MayAsk request other
may-by (Start job) Closed other lifecycle asked e h = rw e at h
may-by (Start job) Reading other lifecycle asked e h = cc
may-by (Start job) Waiting other lifecycle asked e h = cc
may-by (Start job) Cut other lifecycle asked e h = cc
may-by (Read n) Reading other lifecycle asked e h = rw e at h
may-by (Read n) Closed other lifecycle asked e h = cc
may-by (Read n) Waiting other lifecycle asked e h = cc
may-by (Read n) Cut other lifecycle asked e h = cc
may-by (Wait n) Waiting other lifecycle asked e h = let is : other ≡ Waiting = rw e at h in (λ closed. let no : Waiting ≡ Closed = sym is ∙ closed in cc)
may-by (Wait n) Cut other lifecycle asked e h = let is : other ≡ Reading = rw e at h in (λ closed. let no : Reading ≡ Closed = sym is ∙ closed in cc)
may-by (Wait n) Closed other lifecycle asked e h = cc
may-by (Wait n) Reading other lifecycle asked e h = cc

-- what is asked for a child is allowed by the sequence
pub may-ask : (k : ℕ) (calls : List Call) (request : Request) (state : ChildState) → is_asked (Some request) state ≡ true → lifecycle_of k calls ≡ lifecycle_for_state state → MayAsk request (state_of k calls)
may-ask k calls request state asked e = may-by request state (state_of k calls) (lifecycle_of k calls) asked e (all-state k Between Closed calls refl)

open-not-closed : (lifecycle : LifecycleState) (state : ChildState) → IsStateOf lifecycle state → is_open lifecycle ≡ true → state ≢ Closed
open-not-closed InReads state h o e = let x : Reading ≡ Closed = sym h ∙ e in cc
open-not-closed AfterReads state h o e = let x : Waiting ≡ Closed = sym h ∙ e in cc
open-not-closed Between state h o e = cc
open-not-closed Broken state h o e = cc

-- an open child may be waited for
pub open-state : (k : ℕ) (calls : List Call) → is_open (lifecycle_of k calls) ≡ true → state_of k calls ≢ Closed
open-state k calls o e = open-not-closed (lifecycle_of k calls) (state_of k calls) (all-state k Between Closed calls refl) o e

-- what a launcher lists for a start, a read and a wait
pub asks-start : (job : Job) (reply : Answer) (was_full is_full : Bool) (calls calls_now : List Call) → answers_start reply ≡ true
    → MatchBool is_full ((calls_now ≡ calls) × (reply ≡ Memory)) (calls_now ≡ calls ++ Starts job reply ∷ []) → (was_full ≡ true → is_full ≡ true) → Asks (Start job) reply was_full is_full calls calls_now
asks-start job reply was_full true calls calls_now fit listed stays = record {
  listed = [];
  calls_are = listed.0 ∙ sym (append-nil calls);
  lists = (fit, inr (refl, refl, listed.1, refl));
  when_full = λ full. tt;
  stays = stays;
}
asks-start job reply was_full false calls calls_now fit listed stays = record {
  listed = Starts job reply ∷ [];
  calls_are = listed;
  lists = (fit, inl refl);
  when_full = λ full. cc;
  stays = stays;
}

pub asks-read : (n : ℕ) (reply : Answer) (was_full is_full : Bool) (calls calls_now : List Call) → answers_read reply ≡ true → calls_now ≡ calls ++ Reads n reply ∷ [] → is_full ≡ was_full
    → Asks (Read n) reply was_full is_full calls calls_now
asks-read n reply was_full is_full calls calls_now fit listed same =
    record { listed = Reads n reply ∷ []; calls_are = listed; lists = (fit, inl refl); when_full = λ full. tt; stays = λ full. same ∙ full }

pub asks-wait : (n : ℕ) (reply : Answer) (was_full is_full : Bool) (calls calls_now : List Call) → answers_wait reply ≡ true → calls_now ≡ calls ++ Waits n reply ∷ [] → is_full ≡ was_full
    → Asks (Wait n) reply was_full is_full calls calls_now
asks-wait n reply was_full is_full calls calls_now fit listed same =
    record { listed = Waits n reply ∷ []; calls_are = listed; lists = (fit, inl refl); when_full = λ full. tt; stays = λ full. same ∙ full }
