-- How far a session has got.
use Rattle.std.proofs.Common.{◌≡◌, ℕ, ◌+◌, ◌<◌, ◌≤◌, List, [], ◌∷◌, ◌++◌, Bool, true, length, Option, Some, Result, Ok, Err, arith, refl, ap, sym, subst, ◌∙◌, ◌⊎◌, inl, inr, append_assoc, append-nil}
use Rattle.std.proofs.KnownBytes.{Appends-nil, Appends-trans}
use Rattle.std.proofs.lemmas.List.{take_all}
use Rattle.std.specs.Io.KnownBytes.{Appends}
use Rattle.ados_machine.specs.declared.events.BreakAt.{BreakAt}
use Rattle.ados_machine.specs.declared.outs.Out.{Out}
use Rattle.ados_machine.specs.World.{WorldState}
use Rattle.ados_launcher.specs.declared.calls.Call.{Call}
use Rattle.ados_launch.specs.declared.driver.End.{End}
use Rattle.ados_launch.specs.declared.faults.DriveFault.{DriveFault}
use Rattle.ados_launch.specs.declared.faults.DriveFault.TheVariants.{Read, Write, Turns, Memory}
use Rattle.ados_launch.specs.Agreement.{Agrees}
use Rattle.ados_launch.specs.Drives.{HasDriveResult, TakesSession}
use Rattle.ados_launch.specs.Intake.{TakesNextItem}
use Rattle.ados_launch.specs.Lines.{bytes_ahead, IsUnreadable, IfKnown}
use Rattle.ados_launch.specs.Taken.{TakenItem, bytes_of, written_bytes, rest_after_items}
use Rattle.ados_launch.specs.Schedule.{Next, ScheduleState, first_schedule_state, next_after_taken, scheduled_next, next_of, final_schedule_state, following_schedule_state}
use Rattle.ados_launch.specs.Session.{AreDropped, LeavesOverlong, Moment, Session, SessionProgress, CutSessionProgress}
use Rattle.ados_launch.proofs.Taken.{run-more, order-more, standing-more, along-full, along-more, asked-more, asked-full, lines-more, left-more, written-more, count-more}

-- this many were taken, and all of their bytes written; the schedule goes on, with this left to read
pub record Driven (before now : Moment) (breaks : List BreakAt) (n : ℕ) (schedule : ScheduleState) (rest : Option (List ℕ)) : Type 0 where
  pub taken : List TakenItem
  pub listed : List Call
  pub count_is : length taken ≡ n
  pub session : Session before.world before.left breaks before.calls now.is_full listed taken now.world
  pub schedule_is : schedule ≡ final_schedule_state (first_schedule_state breaks) before.world taken
  pub left_is : IfKnown before.left (λ bytes. rest ≡ Some (rest_after_items bytes taken))
  pub written : Appends before.contents now.contents (written_bytes taken)
  pub calls_are : now.calls ≡ before.calls ++ listed

abbrev pub driven-none : (before : Moment) (breaks : List BreakAt) (schedule : ScheduleState) (rest : Option (List ℕ)) → rest ≡ before.left → schedule ≡ first_schedule_state breaks → Agrees before.world before.calls
    → Driven before before breaks 0 schedule rest
driven-none before breaks schedule rest same begins agrees = record {
  taken = [];
  listed = [];
  count_is = refl;
  session = record { run = refl; ordered = tt; lines = λ bytes e. tt; asked = refl; agreed = agrees };
  schedule_is = begins;
  left_is = λ bytes e. same ∙ e;
  written = Appends-nil before.contents;
  calls_are = sym (append-nil before.calls);
}

pub calls-more : (calls mid now listed more : List Call) → mid ≡ calls ++ listed → now ≡ mid ++ more → now ≡ calls ++ (listed ++ more)
calls-more calls mid now listed more e f = f ∙ (ap (λ xs. xs ++ more) e ∙ append_assoc calls listed more)

-- one more was taken
pub session-more : (before mid now : Moment) (breaks : List BreakAt) (n : ℕ) (schedule : ScheduleState) (rest later : Option (List ℕ)) (next : Next) (out : Out)
    → (d : Driven before mid breaks n schedule rest) → scheduled_next schedule mid.world ≡ Some next → (mid.is_full ≡ true → now.is_full ≡ true)
    → (t : TakesNextItem mid.world rest now.is_full mid.calls next now.world later now.calls out) → Agrees now.world now.calls
    → Session before.world before.left breaks before.calls now.is_full (d.listed ++ t.listed) (d.taken ++ t.item ∷ []) now.world
session-more before mid now breaks n schedule rest later next out d here stays t agrees = record {
  run = rw t.takes.world_is (run-more before.world d.taken mid.world t.item d.session.run t.takes.accepted);
  ordered = order-more (first_schedule_state breaks) before.world d.taken mid.world t.item d.session.ordered d.session.run (rw (← d.schedule_is, t.next_is) here);
  lines = λ bytes e. lines-more bytes d.taken t.item (d.session.lines bytes e) (t.takes.lines (rest_after_items bytes d.taken) (d.left_is bytes e)).0;
  asked = asked-more now.is_full before.world d.taken d.listed mid.world t.item t.listed (asked-full mid.is_full now.is_full before.world d.taken d.listed stays d.session.asked) d.session.run t.asked t.when_full;
  agreed = along-more now.is_full before.world before.calls d.taken d.listed mid.world t.item t.listed now.calls (asked-full mid.is_full now.is_full before.world d.taken d.listed stays d.session.asked) d.session.run t.asked t.when_full
      (along-full mid.is_full now.is_full before.world before.calls d.taken d.listed stays d.session.asked d.session.agreed)
      (calls-more before.calls mid.calls now.calls d.listed t.listed d.calls_are t.calls_are)
      (subst (λ world. Agrees world now.calls) t.takes.world_is agrees);
}

abbrev pub driven-more : (before mid now : Moment) (breaks : List BreakAt) (n : ℕ) (schedule after : ScheduleState) (rest later : Option (List ℕ)) (next : Next) (out : Out)
    → Driven before mid breaks n schedule rest → scheduled_next schedule mid.world ≡ Some next → (mid.is_full ≡ true → now.is_full ≡ true)
    → TakesNextItem mid.world rest now.is_full mid.calls next now.world later now.calls out → Agrees now.world now.calls → Appends mid.contents now.contents out.bytes → after ≡ following_schedule_state schedule mid.world next
    → Driven before now breaks (n + 1) after later
driven-more before mid now breaks n schedule after rest later next out d here stays t agrees grown is = record {
  taken = d.taken ++ t.item ∷ [];
  listed = d.listed ++ t.listed;
  count_is = count-more d.taken t.item ∙ ap (λ m. m + 1) d.count_is;
  session = session-more before mid now breaks n schedule rest later next out d here stays t agrees;
  schedule_is = is ∙ (ap (following_schedule_state schedule mid.world) (sym t.next_is) ∙ (ap (λ s. following_schedule_state s mid.world (next_of t.item)) d.schedule_is
      ∙ sym (standing-more (first_schedule_state breaks) before.world d.taken mid.world t.item d.session.run)));
  left_is = λ bytes e. (t.takes.lines (rest_after_items bytes d.taken) (d.left_is bytes e)).1 ∙ ap Some (sym (left-more bytes d.taken t.item));
  written = rw written-more (Appends-trans before.contents mid.contents now.contents (written_bytes d.taken) (bytes_of t.item) d.written (rw t.takes.out_is at grown));
  calls_are = calls-more before.calls mid.calls now.calls d.listed t.listed d.calls_are t.calls_are;
}

pub full-session : (was_full is_full : Bool) (before : Moment) (breaks : List BreakAt) (listed : List Call) (taken : List TakenItem) (last : WorldState) → (was_full ≡ true → is_full ≡ true)
    → Session before.world before.left breaks before.calls was_full listed taken last → Session before.world before.left breaks before.calls is_full listed taken last
full-session was_full is_full before breaks listed taken last stays s = record {
  run = s.run;
  ordered = s.ordered;
  lines = s.lines;
  asked = asked-full was_full is_full before.world taken listed stays s.asked;
  agreed = along-full was_full is_full before.world before.calls taken listed stays s.asked s.agreed;
}

-- the same with more calls after; the world and what is written are unchanged
abbrev pub stands-after : (before mid now : Moment) (breaks : List BreakAt) (n : ℕ) (schedule : ScheduleState) (rest : Option (List ℕ)) (others : List Call)
    → (mid.is_full ≡ true → now.is_full ≡ true) → now.world ≡ mid.world → now.contents ≡ mid.contents → now.calls ≡ mid.calls ++ others → Driven before mid breaks n schedule rest
    → SessionProgress before now breaks n others
stands-after before mid now breaks n schedule rest others stays world written calls d = record {
  taken = d.taken;
  listed = d.listed;
  count_is = d.count_is;
  session = subst (λ w. Session before.world before.left breaks before.calls now.is_full d.listed d.taken w) (sym world)
      (full-session mid.is_full now.is_full before breaks d.listed d.taken mid.world stays d.session);
  written = subst (λ contents. Appends before.contents contents (written_bytes d.taken)) (sym written) d.written;
  calls_are = calls-more before.calls mid.calls now.calls d.listed others d.calls_are calls;
}

abbrev pub stands : (before now : Moment) (breaks : List BreakAt) (n : ℕ) (schedule : ScheduleState) (rest : Option (List ℕ)) → Driven before now breaks n schedule rest → SessionProgress before now breaks n []
stands before now breaks n schedule rest d = stands-after before now now breaks n schedule rest [] (λ e. e) refl refl (sym (append-nil now.calls)) d

-- a read failed, or none did and the line that is due is too long
pub why-read : (before mid : Moment) (breaks : List BreakAt) (n : ℕ) (schedule : ScheduleState) (rest : Option (List ℕ)) (d : Driven before mid breaks n schedule rest) (faults old new : ℕ) (held : List ℕ) (later : Option (List ℕ))
    → faults ≡ old → length held < 4096 → IsUnreadable faults new rest (bytes_ahead held later)
    → (new ≡ old + 1) ⊎ ((new ≡ old) × IfKnown before.left (λ bytes. LeavesOverlong (rest_after_items bytes d.taken) later))
why-read before mid breaks n schedule rest d faults old new held later same few (inl failed) = inl (failed ∙ ap (λ m. m + 1) same)
why-read before mid breaks n schedule rest d faults old new held later same few (inr long) =
    inr (long.0 ∙ same, λ bytes e. let begins = long.1 (rest_after_items bytes d.taken) (d.left_is bytes e) in (begins.0, (held, few, begins.1)))

-- after what was taken this comes next
pub next-is : (before mid : Moment) (breaks : List BreakAt) (n : ℕ) (schedule : ScheduleState) (rest : Option (List ℕ)) (next : Next) (d : Driven before mid breaks n schedule rest)
    → scheduled_next schedule mid.world ≡ Some next → next_after_taken breaks before.world d.taken mid.world ≡ Some next
next-is before mid breaks n schedule rest next d here = subst (λ s. scheduled_next s mid.world ≡ Some next) d.schedule_is here

-- the call whose answer was not taken is for what comes next after what was taken
pub next-dropped : (before mid : Moment) (breaks : List BreakAt) (n : ℕ) (schedule : ScheduleState) (rest : Option (List ℕ)) (next : Next) (dropped : List Call) (d : Driven before mid breaks n schedule rest)
    → scheduled_next schedule mid.world ≡ Some next → AreDropped mid.world (Some next) dropped → AreDropped mid.world (next_after_taken breaks before.world d.taken mid.world) dropped
next-dropped before mid breaks n schedule rest next dropped d here one =
    subst (λ found. AreDropped mid.world found dropped) (sym (next-is before mid breaks n schedule rest next d here)) one

-- whatever the result of the schedule, a session was taken
whole-session : (turns n : ℕ) (before now : Moment) (breaks : List BreakAt) (dropped : List Call) → n ≤ turns → (s : SessionProgress before now breaks n dropped)
    → AreDropped now.world (next_after_taken breaks before.world s.taken now.world) dropped → TakesSession turns breaks before now
whole-session turns n before now breaks dropped within s one = record {
  taken = s.taken;
  listed = s.listed;
  dropped = dropped;
  within = omega (arith, s.count_is, within);
  session = s.session;
  dropped_is = one;
  calls_are = s.calls_are;
  length_written = length (written_bytes s.taken);
  written = rw (take_all (length (written_bytes s.taken)) (written_bytes s.taken) (omega arith)) s.written;
}

cut-session : (turns n : ℕ) (before now : Moment) (breaks : List BreakAt) → n ≤ turns → CutSessionProgress before now breaks n → TakesSession turns breaks before now
cut-session turns n before now breaks within s = record {
  taken = s.taken;
  listed = s.listed;
  dropped = [];
  within = omega (arith, s.count_is, within);
  session = s.session;
  dropped_is = tt;
  calls_are = s.calls_are ∙ ap (λ xs. before.calls ++ xs) (sym (append-nil s.listed));
  length_written = s.length_written;
  written = s.written;
}

pub takes-session : (turns : ℕ) (breaks : List BreakAt) (before now : Moment) (result : Result End DriveFault) → HasDriveResult turns breaks before now result → TakesSession turns breaks before now
takes-session turns breaks before now (Ok end) c = whole-session turns end.events before now breaks [] c.within c.stands tt
takes-session turns breaks before now (Err Turns) c = whole-session turns turns before now breaks [] (omega arith) c.stands tt
takes-session turns breaks before now (Err Memory) c = whole-session turns c.n before now breaks c.dropped (let few = c.few in omega (arith, few)) c.stands c.dropped_is
takes-session turns breaks before now (Err Read) c = whole-session turns c.n before now breaks [] (let few = c.few in omega (arith, few)) c.stands tt
takes-session turns breaks before now (Err Write) c = cut-session turns c.n before now breaks c.within c.stands
