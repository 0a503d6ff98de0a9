-- Two sessions that begin alike take the same.
use Rattle.std.proofs.Common.{◌≡◌, ℕ, List, [], ◌∷◌, ◌++◌, Bool, true, false, Option, Some, None, Ok, refl, ap, sym, subst, ◌∙◌, ◌⊎◌, inl, inr}
use Rattle.std.specs.Prelude.{if◌then◌else◌}
use Rattle.ados_machine.specs.declared.answers.Answer.{Answer as Reply}
use Rattle.ados_machine.specs.declared.events.Event.{Event}
use Rattle.ados_machine.specs.declared.events.Event.TheVariants.{Typed, EndOfInput, Turn, Answer, Break}
use Rattle.ados_machine.specs.declared.outs.Out.{Out}
use Rattle.ados_machine.specs.declared.requests.Request.{Request}
use Rattle.ados_machine.specs.declared.requests.Request.TheVariants.{Start, Read, Wait}
use Rattle.ados_machine.specs.Children.{answers_start}
use Rattle.ados_machine.specs.Runs.{IsResponse, Runs}
use Rattle.ados_machine.specs.Step.{Response, Accepted, Refused, step_of}
use Rattle.ados_machine.specs.World.{WorldState, pending_of}
use Rattle.ados_launcher.specs.declared.calls.Call.{Call}
use Rattle.ados_launch.specs.declared.lines.LineKind.TheVariants.{End, Short, Long}
use Rattle.ados_launch.specs.Asked.{AreAsked, AreNoStarts, HasCall, IsAsked, Lists, ListsOf, call_of, is_start}
use Rattle.ados_launch.specs.Laws.{IsPrefixOfTaken}
use Rattle.ados_launch.specs.Schedule.{Next, AtBreak, AtFurther, AtLine, AtStart, AtTurn, InOrder, ScheduleState, next_of, following_schedule_state}
use Rattle.ados_launch.specs.Taken.{TakenItem, Given, LongLine, AreRead, IsAccepted, IsNext, taken_events, rest_after_item, taken_outs, world_after_item}
use Rattle.ados_launch.proofs.Taken.{starts-more}

-- the output of an accepted event is unique
same-given : (event : Event) (out other : Out) (response : Response) → IsResponse event (Ok out) response → IsResponse event (Ok other) response → out ≡ other
same-given event out other (Accepted world given items) a b = a ∙ sym b
same-given event out other (Refused why) a b = absurd a

same-out : (w : WorldState) (event : Event) (out other : Out) → IsAccepted w (Given event out) → IsAccepted w (Given event other) → Given event out ≡ Given event other
same-out w event out other a b = ap (Given event) (same-given event out other (step_of w event) a b)

-- the call that comes first
head-is : (call other : Call) (calls others : List Call) → call ∷ calls ≡ other ∷ others → call ≡ other
head-is call other calls others e = cc

reply-of : (request : Request) (reply reply' : Reply) → call_of request reply ≡ call_of request reply' → reply ≡ reply'
reply-of (Start job) reply reply' e = cc
reply-of (Read n) reply reply' e = cc
reply-of (Wait n) reply reply' e = cc

-- a start is none of these calls
no-start : (request : Request) (reply : Reply) (calls all : List Call) → is_start request ≡ true → AreNoStarts all → all ≡ call_of request reply ∷ calls → ⊥
no-start (Start job) reply calls all is none e = rw e at none
no-start (Read n) reply calls all is none e = cc
no-start (Wait n) reply calls all is none e = cc

-- what follows the calls for one thing that was taken
abbrev After : List Call → List Call → Type 0
After [] later = AreNoStarts later
After (call ∷ calls) later = Unit {0}

has-after : (k : ℕ) (reply : Reply) (out : Out) (now later : List Call) → HasCall (Given (Answer k reply) out) now later → After now later
has-after k reply out [] later has = has
has-after k reply out (call ∷ calls) later has = tt

-- the answer to a request is unique, given the list of calls
same-reply : (request : Request) (reply reply' : Reply) (full full' : Bool) (now later now' later' more : List Call) → Lists full request reply now → Lists full' request reply' now' → After now later → After now' later'
    → now' ++ later' ≡ (now ++ later) ++ more → (full ≡ true → AreNoStarts more) → reply ≡ reply'
same-reply request reply reply' full full' now later now' later' more (fit, inl is) (fit', inl is') after after' e none =
    let one : call_of request reply' ∷ later' ≡ call_of request reply ∷ (later ++ more) = ap (λ xs. xs ++ later') (sym is') ∙ (e ∙ ap (λ xs. (xs ++ later) ++ more) is) in
    sym (reply-of request reply' reply (head-is (call_of request reply') (call_of request reply) later' (later ++ more) one))
same-reply request reply reply' full full' now later now' later' more (fit, inl is) (fit', inr unlisted) after after' e none =
    let clear : AreNoStarts later' = subst (λ xs. After xs later') unlisted.0 after' in
    let one : later' ≡ call_of request reply ∷ (later ++ more) = ap (λ xs. xs ++ later') (sym unlisted.0) ∙ (e ∙ ap (λ xs. (xs ++ later) ++ more) is) in
    absurd (no-start request reply (later ++ more) later' unlisted.1 clear one)
same-reply request reply reply' full full' now later now' later' more (fit, inr unlisted) (fit', inl is') after after' e none =
    let clear : AreNoStarts (later ++ more) = starts-more later more (subst (λ xs. After xs later) unlisted.0 after) (none unlisted.3) in
    let one : later ++ more ≡ call_of request reply' ∷ later' = ap (λ xs. (xs ++ later) ++ more) (sym unlisted.0) ∙ (sym e ∙ ap (λ xs. xs ++ later') is') in
    absurd (no-start request reply' later' (later ++ more) unlisted.1 clear one)
same-reply request reply reply' full full' now later now' later' more (fit, inr unlisted) (fit', inr unlisted') after after' e none = unlisted.2 ∙ sym unlisted'.2

same-answer : (pending : Option Request) (reply reply' : Reply) (full full' : Bool) (now later now' later' more : List Call) → ListsOf full pending reply now → ListsOf full' pending reply' now' → After now later → After now' later'
    → now' ++ later' ≡ (now ++ later) ++ more → (full ≡ true → AreNoStarts more) → reply ≡ reply'
same-answer None reply reply' full full' now later now' later' more lists lists' after after' e none = absurd lists
same-answer (Some request) reply reply' full full' now later now' later' more lists lists' after after' e none =
    same-reply request reply reply' full full' now later now' later' more lists lists' after after' e none

-- the next thing, by its place
answer-next : (b c : Bool) (k j : ℕ) → (if b then AtStart k else AtFurther k) ≡ (if c then AtStart j else AtFurther j) → k ≡ j
answer-next true true k j e = cc
answer-next true false k j e = cc
answer-next false true k j e = cc
answer-next false false k j e = cc

not-line : (b : Bool) (k : ℕ) → (if b then AtStart k else AtFurther k) ≡ AtLine → ⊥
not-line true k e = cc
not-line false k e = cc

not-turn : (b : Bool) (k j : ℕ) → (if b then AtStart k else AtFurther k) ≡ AtTurn j → ⊥
not-turn true k j e = cc
not-turn false k j e = cc

abbrev is_break : Next → Bool
is_break (AtBreak shell kind) = true
is_break AtLine = false
is_break (AtTurn shell) = false
is_break (AtStart shell) = false
is_break (AtFurther shell) = false

unbroken : (b : Bool) (k : ℕ) → is_break (if b then AtStart k else AtFurther k) ≡ false
unbroken true k = refl
unbroken false k = refl

-- what one session took at a place is what the other did
record Step (w : WorldState) (bytes : List ℕ) (full : Bool) (item : TakenItem) (now later : List Call) : Type 0 where
  accepted : IsAccepted w item
  read : IsNext bytes item
  asked : IsAsked full w item now
  has : HasCall item now later

same-break : (w : WorldState) (bytes : List ℕ) (full full' : Bool) (item other : TakenItem) (now later now' later' : List Call) → Step w bytes full item now later → Step w bytes full' other now' later'
    → is_break (next_of item) ≡ true → next_of item ≡ next_of other → item ≡ other
same-break w bytes full full' (Given (Break k kind) out) (Given (Break j kind') out') now later now' later' s t is e =
    let same : Break k kind ≡ Break j kind' = cc in
    subst (λ event. Given (Break k kind) out ≡ Given event out') same (same-out w (Break k kind) out out' s.accepted (subst (λ event. IsAccepted w (Given event out')) (sym same) t.accepted))
same-break w bytes full full' (Given (Break k kind) out) (Given (Typed line) out') now later now' later' s t is e = cc
same-break w bytes full full' (Given (Break k kind) out) (Given EndOfInput out') now later now' later' s t is e = cc
same-break w bytes full full' (Given (Break k kind) out) (Given (Turn j) out') now later now' later' s t is e = cc
same-break w bytes full full' (Given (Break k kind) out) (Given (Answer j reply) out') now later now' later' s t is e =
    let no = unbroken (answers_start reply) j in let yes = ap is_break e in cc
same-break w bytes full full' (Given (Break k kind) out) LongLine now later now' later' s t is e = cc
same-break w bytes full full' (Given (Typed line) out) other now later now' later' s t is e = cc
same-break w bytes full full' (Given EndOfInput out) other now later now' later' s t is e = cc
same-break w bytes full full' (Given (Turn k) out) other now later now' later' s t is e = cc
same-break w bytes full full' (Given (Answer k reply) out) other now later now' later' s t is e = let no = unbroken (answers_start reply) k in cc
same-break w bytes full full' LongLine other now later now' later' s t is e = cc

-- a line, the end of the input, or a long line: the bytes determine which
same-line : (w : WorldState) (bytes : List ℕ) (full full' : Bool) (item other : TakenItem) (now later now' later' : List Call) → Step w bytes full item now later → Step w bytes full' other now' later'
    → next_of item ≡ AtLine → next_of other ≡ AtLine → item ≡ other
same-line w bytes full full' (Given (Typed line) out) (Given (Typed line') out') now later now' later' s t e f =
    let same : line ≡ line' = s.read.1 ∙ sym t.read.1 in
    rw (← same) (same-out w (Typed line) out out' s.accepted (rw (← same) at t.accepted))
same-line w bytes full full' (Given (Typed line) out) (Given EndOfInput out') now later now' later' s t e f = let no : Short ≡ End = sym s.read.0 ∙ t.read in cc
same-line w bytes full full' (Given (Typed line) out) LongLine now later now' later' s t e f = let no : Short ≡ Long = sym s.read.0 ∙ t.read in cc
same-line w bytes full full' (Given EndOfInput out) (Given (Typed line') out') now later now' later' s t e f = let no : End ≡ Short = sym s.read ∙ t.read.0 in cc
same-line w bytes full full' (Given EndOfInput out) (Given EndOfInput out') now later now' later' s t e f = same-out w EndOfInput out out' s.accepted t.accepted
same-line w bytes full full' (Given EndOfInput out) LongLine now later now' later' s t e f = let no : End ≡ Long = sym s.read ∙ t.read in cc
same-line w bytes full full' LongLine (Given (Typed line') out') now later now' later' s t e f = let no : Long ≡ Short = sym s.read ∙ t.read.0 in cc
same-line w bytes full full' LongLine (Given EndOfInput out') now later now' later' s t e f = let no : Long ≡ End = sym s.read ∙ t.read in cc
same-line w bytes full full' LongLine LongLine now later now' later' s t e f = refl
same-line w bytes full full' (Given (Turn k) out) other now later now' later' s t e f = cc
same-line w bytes full full' (Given (Answer k reply) out) other now later now' later' s t e f = absurd (not-line (answers_start reply) k e)
same-line w bytes full full' (Given (Break k kind) out) other now later now' later' s t e f = cc
same-line w bytes full full' (Given (Typed line) out) (Given (Turn k) out') now later now' later' s t e f = cc
same-line w bytes full full' (Given (Typed line) out) (Given (Answer k reply) out') now later now' later' s t e f = absurd (not-line (answers_start reply) k f)
same-line w bytes full full' (Given (Typed line) out) (Given (Break k kind) out') now later now' later' s t e f = cc
same-line w bytes full full' (Given EndOfInput out) (Given (Turn k) out') now later now' later' s t e f = cc
same-line w bytes full full' (Given EndOfInput out) (Given (Answer k reply) out') now later now' later' s t e f = absurd (not-line (answers_start reply) k f)
same-line w bytes full full' (Given EndOfInput out) (Given (Break k kind) out') now later now' later' s t e f = cc
same-line w bytes full full' LongLine (Given (Turn k) out') now later now' later' s t e f = cc
same-line w bytes full full' LongLine (Given (Answer k reply) out') now later now' later' s t e f = absurd (not-line (answers_start reply) k f)
same-line w bytes full full' LongLine (Given (Break k kind) out') now later now' later' s t e f = cc

same-turn : (w : WorldState) (bytes : List ℕ) (full full' : Bool) (k : ℕ) (out : Out) (other : TakenItem) (now later now' later' : List Call) → Step w bytes full (Given (Turn k) out) now later → Step w bytes full' other now' later'
    → next_of other ≡ AtTurn k → Given (Turn k) out ≡ other
same-turn w bytes full full' k out (Given (Turn j) out') now later now' later' s t e =
    let same : k ≡ j = cc in
    rw (← same) (same-out w (Turn k) out out' s.accepted (rw (← same) at t.accepted))
same-turn w bytes full full' k out (Given (Typed line) out') now later now' later' s t e = cc
same-turn w bytes full full' k out (Given EndOfInput out') now later now' later' s t e = cc
same-turn w bytes full full' k out (Given (Answer j reply) out') now later now' later' s t e = absurd (not-turn (answers_start reply) j k e)
same-turn w bytes full full' k out (Given (Break j kind) out') now later now' later' s t e = cc
same-turn w bytes full full' k out LongLine now later now' later' s t e = cc

same-call : (w : WorldState) (bytes : List ℕ) (full full' : Bool) (k : ℕ) (reply : Reply) (out : Out) (other : TakenItem) (now later now' later' more : List Call)
    → Step w bytes full (Given (Answer k reply) out) now later → Step w bytes full' other now' later' → next_of (Given (Answer k reply) out) ≡ next_of other
    → now' ++ later' ≡ (now ++ later) ++ more → (full ≡ true → AreNoStarts more) → Given (Answer k reply) out ≡ other
same-call w bytes full full' k reply out (Given (Answer j reply') out') now later now' later' more s t e calls none =
    let shell : k ≡ j = answer-next (answers_start reply) (answers_start reply') k j e in
    let told : ListsOf full' (pending_of w k) reply' now' = rw (← shell) at t.asked in
    let same : reply ≡ reply' = same-answer (pending_of w k) reply reply' full full' now later now' later' more s.asked told (has-after k reply out now later s.has) (has-after j reply' out' now' later' t.has) calls none in
    rw (← shell, ← same) (same-out w (Answer k reply) out out' s.accepted (rw (← shell, ← same) at t.accepted))
same-call w bytes full full' k reply out (Given (Typed line) out') now later now' later' more s t e calls none = absurd (not-line (answers_start reply) k e)
same-call w bytes full full' k reply out (Given EndOfInput out') now later now' later' more s t e calls none = absurd (not-line (answers_start reply) k e)
same-call w bytes full full' k reply out (Given (Turn j) out') now later now' later' more s t e calls none = absurd (not-turn (answers_start reply) k j e)
same-call w bytes full full' k reply out (Given (Break j kind) out') now later now' later' more s t e calls none =
    let no = unbroken (answers_start reply) k in let yes = ap is_break e in cc
same-call w bytes full full' k reply out LongLine now later now' later' more s t e calls none = absurd (not-line (answers_start reply) k e)

same-item : (w : WorldState) (bytes : List ℕ) (full full' : Bool) (item other : TakenItem) (now later now' later' more : List Call) → Step w bytes full item now later → Step w bytes full' other now' later'
    → next_of item ≡ next_of other → now' ++ later' ≡ (now ++ later) ++ more → (full ≡ true → AreNoStarts more) → item ≡ other
same-item w bytes full full' (Given (Typed line) out) other now later now' later' more s t e calls none = same-line w bytes full full' (Given (Typed line) out) other now later now' later' s t refl (sym e)
same-item w bytes full full' (Given EndOfInput out) other now later now' later' more s t e calls none = same-line w bytes full full' (Given EndOfInput out) other now later now' later' s t refl (sym e)
same-item w bytes full full' LongLine other now later now' later' more s t e calls none = same-line w bytes full full' LongLine other now later now' later' s t refl (sym e)
same-item w bytes full full' (Given (Turn k) out) other now later now' later' more s t e calls none = same-turn w bytes full full' k out other now later now' later' s t (sym e)
same-item w bytes full full' (Given (Answer k reply) out) other now later now' later' more s t e calls none = same-call w bytes full full' k reply out other now later now' later' more s t e calls none
same-item w bytes full full' (Given (Break k kind) out) other now later now' later' more s t e calls none = same-break w bytes full full' (Given (Break k kind) out) other now later now' later' s t refl e

-- the calls after those for an item that both took
after-same : (item : TakenItem) (w : WorldState) (full full' : Bool) (now later now' later' more : List Call) → IsAsked full w item now → IsAsked full' w item now' → HasCall item now later → HasCall item now' later'
    → now' ++ later' ≡ (now ++ later) ++ more → (full ≡ true → AreNoStarts more) → later' ≡ later ++ more
after-same (Given (Typed line) out) w full full' now later now' later' more a b has has' e none = rw (a, b) at e
after-same (Given EndOfInput out) w full full' now later now' later' more a b has has' e none = rw (a, b) at e
after-same (Given (Turn k) out) w full full' now later now' later' more a b has has' e none = rw (a, b) at e
after-same (Given (Break k kind) out) w full full' now later now' later' more a b has has' e none = rw (a, b) at e
after-same LongLine w full full' now later now' later' more a b has has' e none = rw (a, b) at e
after-same (Given (Answer k reply) out) w full full' now later now' later' more a b has has' e none =
    after-answer (pending_of w k) a b
  where
    after-answer : (pending : Option Request) → ListsOf full pending reply now → ListsOf full' pending reply now' → later' ≡ later ++ more
    after-answer None lists lists' = absurd lists
    after-answer (Some request) (fit, inl is) (fit', inl is') =
        let one : call_of request reply ∷ later' ≡ call_of request reply ∷ (later ++ more) = ap (λ xs. xs ++ later') (sym is') ∙ (e ∙ ap (λ xs. (xs ++ later) ++ more) is) in cc
    after-answer (Some request) (fit, inl is) (fit', inr unlisted) =
        let clear : AreNoStarts later' = subst (λ xs. After xs later') unlisted.0 (has-after k reply out now' later' has') in
        let one : later' ≡ call_of request reply ∷ (later ++ more) = ap (λ xs. xs ++ later') (sym unlisted.0) ∙ (e ∙ ap (λ xs. (xs ++ later) ++ more) is) in
        absurd (no-start request reply (later ++ more) later' unlisted.1 clear one)
    after-answer (Some request) (fit, inr unlisted) (fit', inl is') =
        let clear : AreNoStarts (later ++ more) = starts-more later more (subst (λ xs. After xs later) unlisted.0 (has-after k reply out now later has)) (none unlisted.3) in
        let one : later ++ more ≡ call_of request reply ∷ later' = ap (λ xs. (xs ++ later) ++ more) (sym unlisted.0) ∙ (sym e ∙ ap (λ xs. xs ++ later') is') in
        absurd (no-start request reply later' (later ++ more) unlisted.1 clear one)
    after-answer (Some request) (fit, inr unlisted) (fit', inr unlisted') =
        ap (λ xs. xs ++ later') (sym unlisted'.0) ∙ (e ∙ ap (λ xs. (xs ++ later) ++ more) unlisted.0)

-- the first thing of a run, and the rest
first-accepted : (w : WorldState) (item : TakenItem) (taken : List TakenItem) (last : WorldState) → Runs w (taken_events (item ∷ taken)) (taken_outs (item ∷ taken)) last
    → IsAccepted w item × Runs (world_after_item w item) (taken_events taken) (taken_outs taken) last
first-accepted w (Given event out) taken last run = run
first-accepted w LongLine taken last run = (tt, run)

front-more : (item : TakenItem) (taken taken' : List TakenItem) → IsPrefixOfTaken taken taken' ⊎ IsPrefixOfTaken taken' taken → IsPrefixOfTaken (item ∷ taken) (item ∷ taken') ⊎ IsPrefixOfTaken (item ∷ taken') (item ∷ taken)
front-more item taken taken' (inl (rest, is)) = inl (rest, ap (λ xs. item ∷ xs) is)
front-more item taken taken' (inr (rest, is)) = inr (rest, ap (λ xs. item ∷ xs) is)

pub unique : (taken taken' : List TakenItem) (s : ScheduleState) (w : WorldState) (bytes : List ℕ) (full full' : Bool) (listed listed' more : List Call) (last last' : WorldState)
    → Runs w (taken_events taken) (taken_outs taken) last → Runs w (taken_events taken') (taken_outs taken') last' → InOrder s w taken → InOrder s w taken' → AreRead bytes taken → AreRead bytes taken'
    → AreAsked full w taken listed → AreAsked full' w taken' listed' → listed' ≡ listed ++ more → (full ≡ true → AreNoStarts more) → IsPrefixOfTaken taken taken' ⊎ IsPrefixOfTaken taken' taken
unique [] taken' s w bytes full full' listed listed' more last last' run run' order order' read read' asked asked' calls none = inl (taken', refl)
unique (item ∷ taken) [] s w bytes full full' listed listed' more last last' run run' order order' read read' asked asked' calls none = inr (item ∷ taken, refl)
unique (item ∷ taken) (other ∷ taken') s w bytes full full' listed listed' more last last' run run' order order' read read' asked asked' calls none =
    let one = first-accepted w item taken last run in
    let two = first-accepted w other taken' last' run' in
    let next : next_of item ≡ next_of other = (let x : Some (next_of item) ≡ Some (next_of other) = sym order.0 ∙ order'.0 in cc) in
    let all : asked'.0 ++ asked'.1 ≡ (asked.0 ++ asked.1) ++ more = sym asked'.2 ∙ (calls ∙ ap (λ xs. xs ++ more) asked.2) in
    let same : item ≡ other = same-item w bytes full full' item other asked.0 asked.1 asked'.0 asked'.1 more
    (record { accepted = one.0; read = read.0; asked = asked.3; has = asked.4 }) (record { accepted = two.0; read = read'.0; asked = asked'.3; has = asked'.4 }) next all none in
    subst (λ x. IsPrefixOfTaken (item ∷ taken) (x ∷ taken') ⊎ IsPrefixOfTaken (x ∷ taken') (item ∷ taken)) same
    (front-more item taken taken' (unique taken taken' (following_schedule_state s w (next_of item)) (world_after_item w item) (rest_after_item bytes item) full full' asked.1 asked'.1 more last last'
    one.1 (rw (← same) at two.1) order.1 (rw (← same) at order'.1) read.1 (rw (← same) at read'.1) asked.5 (rw (← same) at asked'.5)
    (after-same item w full full' asked.0 asked.1 asked'.0 asked'.1 more asked.3 (rw (← same) at asked'.3) asked.4 (rw (← same) at asked'.4) all none) none))
