-- What an event that was taken is in a session.
use Rattle.std.proofs.Common.{◌≡◌, ℕ, ◌-◌, ◌≤◌, List, [], ◌++◌, Bool, true, false, not, Option, Some, None, Result, Ok, Err, OnOk, nat_lt, refl, ap, sym, subst, ◌∙◌, append-nil, arith, inl, inr}
use Rattle.std.specs.Prelude.{if◌then◌else◌}
use Rattle.std.proofs.lemmas.Bool.{cases_Bool, not-true}
use Rattle.std.proofs.lemmas.Grind.{common_steps}
use Rattle.ados_machine.specs.declared.answers.Answer.{Answer as Reply}
use Rattle.ados_machine.specs.declared.events.Event.{Event}
use Rattle.ados_machine.specs.declared.events.Event.TheVariants.{Typed, EndOfInput, Turn, Answer, Break}
use Rattle.ados_machine.specs.declared.events.BreakKind.{BreakKind}
use Rattle.ados_machine.specs.declared.outs.Out.{Out}
use Rattle.ados_machine.specs.declared.requests.Request.{Request}
use Rattle.ados_machine.specs.declared.requests.Request.TheVariants.{Start, Read, Wait}
use Rattle.ados_machine.specs.Children.{answers_start, fits}
use Rattle.ados_machine.specs.World.{WorldState, pending_of}
use Rattle.ados_machine.specs.Step.{event_out, step_of}
use Rattle.ados_machine.specs.Runs.{IsResponse, resulting_world}
use Rattle.ados_launcher.specs.declared.calls.Call.{Call}
use Rattle.ados_launch.specs.declared.lines.LineKind.{LineKind}
use Rattle.ados_launch.specs.declared.lines.LineKind.TheVariants.{End, Long, Overlong, Short}
use Rattle.ados_launch.specs.declared.rounds.Due.{Due}
use Rattle.ados_launch.specs.declared.schedule.Next as found
use Rattle.ados_launch.specs.declared.schedule.Next.TheVariants.{Break as BreakFound, Due as DueFound}
use Rattle.ados_launch.specs.Asked.{LauncherAnswers, IsAsked, IsTaken, Lists}
use Rattle.ados_launch.specs.Intake.{LacksMemory, TakesLineOrEnd, TakesNextItem}
use Rattle.ados_launch.specs.Lines.{BeginsOverlong, IfKnown, TakesLine, line_of, rest_of, kind_of}
use Rattle.ados_launch.specs.Taken.{TakenItem, Given, LongLine, output_of, IsNext, IsOfReader, rest_after_item, text_of}
use Rattle.ados_launch.specs.Rounds.{asks_read_or_wait, asks_start, has_event}
use Rattle.ados_launch.specs.NoFurther.{TakesPart}
use Rattle.ados_launch.specs.Schedule.{AtBreak, AtFurther, AtLine, AtStart, AtTurn, Next, next_at, next_of, next_of_event}
use Rattle.ados_launch.specs.Session.{AreDropped}
use Rattle.ados_launch.proofs.PartLines.{part-at-line, part-at-none}
use Rattle.ados_launch.proofs.Places.{comes-start, comes-late}

-- what was found to be due is at one place
abbrev place-found : found.Next → ℕ
place-found (BreakFound at) = 0
place-found (DueFound due_at) = due_at.place

pub same-place : (next : found.Next) (one other : Due) → next ≡ DueFound one → next ≡ DueFound other → one.place ≡ other.place
same-place next one other p q = sym (ap place-found p) ∙ ap place-found q

-- a line of the reader, or its end
pub took-line : (w now : WorldState) (left rest : Option (List ℕ)) (event : Event) (out : Out)
    → IsResponse event (Ok out) (step_of w event) → now ≡ resulting_world w (Ok out) (step_of w event) → IsOfReader (Given event out)
    → IfKnown left (λ bytes. IsNext bytes (Given event out) × (rest ≡ Some (rest_after_item bytes (Given event out))))
    → TakesLineOrEnd w left now rest out
took-line w now left rest event out answer world of_reader lines =
    (Given event out, of_reader, record { accepted = answer; world_is = world; lines = lines; out_is = refl })

read-place : (item : TakenItem) → IsOfReader item → next_of item ≡ AtLine
read-place (Given (Typed line) out) h = refl
read-place (Given EndOfInput out) h = refl
read-place (Given (Turn k) out) h = absurd h
read-place (Given (Answer k reply) out) h = absurd h
read-place (Given (Break k kind) out) h = absurd h
read-place LongLine h = refl

read-asks : (is_full : Bool) (w : WorldState) (item : TakenItem) → IsOfReader item → IsAsked is_full w item []
read-asks is_full w (Given (Typed line) out) h = refl
read-asks is_full w (Given EndOfInput out) h = refl
read-asks is_full w (Given (Turn k) out) h = absurd h
read-asks is_full w (Given (Answer k reply) out) h = absurd h
read-asks is_full w (Given (Break k kind) out) h = absurd h
read-asks is_full w LongLine h = refl

-- at place 0 a line is taken, and nothing is asked of the launcher
pub took-at-lines : {X E : Type 0} (w now : WorldState) (left rest : Option (List ℕ)) (is_full : Bool) (calls : List Call) (place : ℕ) (out : Out) (result : Result X E) → place ≡ 0
    → OnOk result (TakesLineOrEnd w left now rest out) → OnOk result (TakesNextItem w left is_full calls (next_at place) now rest calls out)
took-at-lines w now left rest is_full calls place out (Ok done) at t = record {
  item = t.0;
  listed = [];
  next_is = read-place t.0 t.1 ∙ ap next_at (sym at);
  takes = t.2;
  calls_are = sym (append-nil calls);
  asked = read-asks is_full w t.0 t.1;
  when_full = λ full. tt;
}
took-at-lines w now left rest is_full calls place out (Err fault) at t = tt

turn-at : (place : ℕ) → 1 ≤ place → place ≤ 20 → AtTurn place ≡ next_at place
turn-at place low high = grind (arith, common_steps)

-- the turn of a shell
pub took-at-turn : (w now : WorldState) (left : Option (List ℕ)) (is_full : Bool) (calls : List Call) (place : ℕ) (out : Out)
    → 1 ≤ place → place ≤ 20 → IsResponse (Turn place) (Ok out) (step_of w (Turn place)) → now ≡ resulting_world w (Ok out) (step_of w (Turn place))
    → TakesNextItem w left is_full calls (next_at place) now left calls out
took-at-turn w now left is_full calls place out low high answer world = record {
  item = Given (Turn place) out;
  listed = [];
  next_is = turn-at place low high;
  takes = record { accepted = answer; world_is = world; lines = λ bytes e. (tt, e); out_is = refl };
  calls_are = sym (append-nil calls);
  asked = refl;
  when_full = λ full. tt;
}

-- a break of a shell
pub took-at-break : (w now : WorldState) (left : Option (List ℕ)) (is_full : Bool) (calls : List Call) (k : ℕ) (kind : BreakKind) (out : Out)
    → IsResponse (Break k kind) (Ok out) (step_of w (Break k kind)) → now ≡ resulting_world w (Ok out) (step_of w (Break k kind))
    → TakesNextItem w left is_full calls (AtBreak k kind) now left calls out
took-at-break w now left is_full calls k kind out answer world = record {
  item = Given (Break k kind) out;
  listed = [];
  next_is = refl;
  takes = record { accepted = answer; world_is = world; lines = λ bytes e. (tt, e); out_is = refl };
  calls_are = sym (append-nil calls);
  asked = refl;
  when_full = λ full. tt;
}

start-fits : (request : Request) (reply : Reply) → fits request reply ≡ true → asks_start (Some request) ≡ answers_start reply
start-fits (Start job) reply fit = sym fit
start-fits (Read n) reply fit = grind (arith, common_steps)
start-fits (Wait n) reply fit = grind (arith, common_steps)

further-fits : (request : Request) → asks_read_or_wait (Some request) ≡ not (asks_start (Some request))
further-fits (Start job) = refl
further-fits (Read n) = refl
further-fits (Wait n) = refl

start-due : (w : WorldState) (place : ℕ) (request : Request) → 21 ≤ place → nat_lt place 41 ≡ true → has_event w place ≡ true → pending_of w (place - 20) ≡ Some request → asks_start (Some request) ≡ true
start-due w place request late on due asked = rw asked at (sym (comes-start w place late (grind (arith, common_steps))) ∙ due)

further-due : (w : WorldState) (place : ℕ) (request : Request) → nat_lt place 41 ≡ false → has_event w place ≡ true → pending_of w (place - 40) ≡ Some request → asks_start (Some request) ≡ false
further-due w place request off due asked =
    not-true (asks_start (Some request)) (sym (further-fits request) ∙ (rw asked at (sym (comes-late w place (grind (arith, common_steps))) ∙ due)))

-- the shell that is answered at a place, and the place of its answer
abbrev pub shell_at_place : ℕ → ℕ
shell_at_place place = if nat_lt place 41 then place - 20 else place - 40

answer-by : (place : ℕ) (b : Bool) → 21 ≤ place → (nat_lt place 41 ≡ true → b ≡ true) → (nat_lt place 41 ≡ false → b ≡ false) →
    (if b then AtStart (shell_at_place place) else AtFurther (shell_at_place place)) ≡ next_at place
answer-by place b late early further =
    elim (cases_Bool (nat_lt place 41)) [
      | inl on ↦ rw (early on) (grind (arith, common_steps))
      | inr off ↦ rw (further off) (grind (arith, common_steps))
    ]

-- an answer is what was due at its place
answer-at : (w : WorldState) (place : ℕ) (request : Request) (reply : Reply) → 21 ≤ place → has_event w place ≡ true → pending_of w (shell_at_place place) ≡ Some request → fits request reply ≡ true
    → next_of_event (Answer (shell_at_place place) reply) ≡ next_at place
answer-at w place request reply late due asked fit = answer-by place (answers_start reply) late
    (λ on. sym (start-fits request reply fit) ∙ start-due w place request late on due (rw on at asked))
    (λ off. sym (start-fits request reply fit) ∙ further-due w place request off due (rw off at asked))

listed-dropped : (w : WorldState) (is_full : Bool) (place : ℕ) (request : Request) (reply : Reply) (listed : List Call) → 21 ≤ place → has_event w place ≡ true
    → pending_of w (shell_at_place place) ≡ Some request → Lists is_full request reply listed → AreDropped w (Some (next_at place)) listed
listed-dropped w is_full place request reply listed late due asked (fit, inl is) =
    subst (AreDropped w (Some (next_at place))) (sym is)
    (record { number = shell_at_place place; request = request; reply = reply; next_is = ap Some (sym (answer-at w place request reply late due asked fit)); pending_is = asked; fit = fit; call_is = refl })
listed-dropped w is_full place request reply listed late due asked (fit, inr none) = subst (AreDropped w (Some (next_at place))) (sym none.0) tt

-- there was no memory for a turn or a break
pub lacks-event : (w : WorldState) (next : Next) (faults : ℕ) (left : Option (List ℕ)) (calls : List Call) → LacksMemory w next faults faults left left calls calls
lacks-event w next faults left calls = record {
  reads_well = refl;
  unread = λ bytes e. part-at-none next bytes left e;
  dropped = [];
  dropped_is = tt;
  calls_are = sym (append-nil calls);
}

-- for a line
pub lacks-line : (w : WorldState) (next : Next) (was_faults faults : ℕ) (left rest : Option (List ℕ)) (calls : List Call) → next ≡ AtLine → faults ≡ was_faults
    → IfKnown left (λ bytes. TakesPart bytes rest) → LacksMemory w next was_faults faults left rest calls calls
lacks-line w next was_faults faults left rest calls at honest part = record {
  reads_well = honest;
  unread = λ bytes e. part-at-line next bytes rest at (part bytes e);
  dropped = [];
  dropped_is = tt;
  calls_are = sym (append-nil calls);
}

-- for a launcher's answer
pub lacks-answer : (w : WorldState) (faults : ℕ) (left : Option (List ℕ)) (was_full is_full : Bool) (calls calls_now : List Call) (place : ℕ) (outcome : Reply → Type 0)
    → 21 ≤ place → has_event w place ≡ true → LauncherAnswers w (shell_at_place place) was_full is_full calls calls_now outcome → LacksMemory w (next_at place) faults faults left left calls calls_now
lacks-answer w faults left was_full is_full calls calls_now place outcome late due a = record {
  reads_well = refl;
  unread = λ bytes e. part-at-none (next_at place) bytes left e;
  dropped = a.asks.listed;
  dropped_is = listed-dropped w is_full place a.request a.reply a.asks.listed late due a.pending_is a.asks.lists;
  calls_are = a.asks.calls_are;
}

-- a launcher's answer
pub took-at-answer : (w now : WorldState) (left : Option (List ℕ)) (was_full is_full : Bool) (calls calls_now : List Call) (place : ℕ) (out : Out)
    → 21 ≤ place → has_event w place ≡ true → LauncherAnswers w (shell_at_place place) was_full is_full calls calls_now (IsTaken w (shell_at_place place) now out)
    → TakesNextItem w left is_full calls (next_at place) now left calls_now out
took-at-answer w now left was_full is_full calls calls_now place out late due a = record {
  item = Given (Answer (shell_at_place place) a.reply) out;
  listed = a.asks.listed;
  next_is = answer-at w place a.request a.reply late due a.pending_is a.asks.lists.0;
  takes = record { accepted = a.led_to.0; world_is = a.led_to.1; lines = λ bytes e. (tt, e); out_is = refl };
  calls_are = a.asks.calls_are;
  asked = rw a.pending_is a.asks.lists;
  when_full = a.asks.when_full;
}

pub next-end : (bytes : List ℕ) (kind : LineKind) (kept : List ℕ) (now : Option (List ℕ)) → TakesLine bytes kind kept now → kind ≡ End → (kind_of bytes ≡ End) × (now ≡ Some (rest_of bytes))
next-end bytes kind kept now t e = (sym t.kind_is ∙ e, t.now_is (λ k. cc))

pub next-short : (bytes : List ℕ) (kind : LineKind) (kept : List ℕ) (now : Option (List ℕ)) (text slice : List ℕ) → TakesLine bytes kind kept now → kind ≡ Short → text ≡ text_of slice → slice ≡ kept
    → ((kind_of bytes ≡ Short) × (text ≡ text_of (line_of bytes))) × (now ≡ Some (rest_of bytes))
next-short bytes kind kept now text slice t e said same =
    ((sym t.kind_is ∙ e, said ∙ ap text_of (same ∙ t.kept_is e)), t.now_is (λ k. cc))

pub next-long : (bytes : List ℕ) (kind : LineKind) (kept : List ℕ) (now : Option (List ℕ)) → TakesLine bytes kind kept now → kind ≡ Long → (kind_of bytes ≡ Long) × (now ≡ Some (rest_of bytes))
next-long bytes kind kept now t e = (sym t.kind_is ∙ e, t.now_is (λ k. cc))

-- a text was put in the place of a long line
pub took-long : (w : WorldState) (left rest : Option (List ℕ)) (out : Out) → IfKnown left (λ bytes. (kind_of bytes ≡ Long) × (rest ≡ Some (rest_of bytes))) → out ≡ output_of LongLine
    → TakesLineOrEnd w left w rest out
took-long w left rest out lines is = (LongLine, tt, record { accepted = tt; world_is = refl; lines = lines; out_is = is })

pub long-out : (out : Out) (printed text : List ℕ) → out ≡ event_out [] None [] → printed ≡ out.bytes ++ text → event_out printed out.request out.reports ≡ event_out text None []
long-out out printed text none grown = rw grown (rw none refl)

-- as many bytes of an overlong line were taken as show that it is one
pub next-overlong : (bytes : List ℕ) (kind : LineKind) (kept : List ℕ) (now : Option (List ℕ)) → TakesLine bytes kind kept now → kind ≡ Overlong → BeginsOverlong bytes now
next-overlong bytes kind kept now t e = (sym t.kind_is ∙ e, t.cut_is e)
