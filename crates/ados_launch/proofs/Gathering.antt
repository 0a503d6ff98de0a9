-- A drive whose output is gathered: what was printed is what the writer got and what is gathered.
use Rattle.std.proofs.Common.{◌≡◌, ◌∙◌, ℕ, zero, suc, ◌+◌, ◌<◌, ◌≤◌, List, [], ◌∷◌, ◌++◌, Bool, true, false, length, take, Option, Some, None, Result, Ok, Err, arith, refl, sym, ap, subst, ◌⊎◌, inl, inr, append_assoc, append-nil, length-append}
use Rattle.std.specs.Prelude.{IsErrAnd, OnErr, OnOk}
use Rattle.std.proofs.KnownBytes.{Appends-nil, Appends-trans}
use Rattle.std.proofs.Math.Seq.{take-append-add}
use Rattle.std.proofs.lemmas.List.{take-append-le}
use Rattle.std.specs.Io.KnownBytes.{Appends, append_known}
use Rattle.ados_machine.specs.declared.events.BreakAt.{BreakAt}
use Rattle.ados_machine.specs.declared.outs.Out.{Out}
use Rattle.ados_launch.specs.declared.faults.DriveFault.{DriveFault}
use Rattle.ados_launch.specs.declared.faults.DriveFault.TheVariants.{Read, Write, Turns, Memory}
use Rattle.ados_launch.specs.declared.faults.IntakeFault.{IntakeFault}
use Rattle.ados_launch.specs.declared.faults.IntakeFault.TheVariants.{NoMemory, Read as Unread}
use Rattle.ados_machine.specs.World.{WorldState}
use Rattle.ados_launch.specs.declared.schedule.Next as found
use Rattle.ados_launch.specs.declared.schedule.Next.TheVariants.{Break as BreakFound, Due as DueFound}
use Rattle.ados_launch.specs.Agreement.{Agrees}
use Rattle.ados_launch.specs.Rounds.{following_place}
use Rattle.ados_launch.specs.Drives.{HasDriveResult, ReadsWell, StopsAtWrite, WritesWell}
use Rattle.ados_launch.specs.Faults.{drive_fault}
use Rattle.ados_launch.specs.Gathering.{FailsToWrite, Gathers, GathersNext, GetsPart, HasGatherResult, StopsAfter, StopsBefore, WritesGathered}
use Rattle.ados_launch.specs.Intake.{TakesNextItem}
use Rattle.ados_launch.specs.Lines.{bytes_ahead}
use Rattle.ados_launch.specs.Schedule.{MayCome, Next, ScheduleState, scheduled_next, first_schedule_state, passed_schedule_state}
use Rattle.ados_launch.specs.Session.{CutSessionProgress, Moment, Session}
use Rattle.ados_launch.specs.Steps.{SessionState}
use Rattle.ados_launch.specs.Taken.{bytes_of, written_bytes}
use Rattle.ados_launch.proofs.Sessions.{Driven, driven-more, driven-none, session-more, full-session, calls-more}
use Rattle.ados_launch.proofs.Stepping.{stops-by, following-taken}
use Rattle.ados_launch.proofs.Taken.{count-more, written-more}

-- what follows from the one and the other result
pub on-ok : {T E P Q : Type 0} → (result : Result T E) → (P → Q) → OnOk result P → OnOk result Q
on-ok (Ok value) f p = f p
on-ok (Err why) f p = p

pub on-err : {T E P Q : Type 0} → (result : Result T E) → (P → Q) → OnErr result P → OnErr result Q
on-err (Ok value) f p = p
on-err (Err why) f p = f p

-- all that is gathered was written
pub gathers-all : (contents contents_now : Option (List ℕ)) (was : List ℕ) → Appends contents contents_now was → Gathers was [] contents contents_now []
gathers-all contents contents_now was written = (was, written, refl)

-- none of it was written
pub gathers-none : (contents : Option (List ℕ)) (was : List ℕ) → Gathers was was contents contents []
gathers-none contents was = ([], Appends-nil contents, append-nil was)

-- more was gathered before
pub gathers-held : (contents contents_now : Option (List ℕ)) (was now bytes : List ℕ) → Gathers (was ++ bytes) now contents contents_now [] → Gathers was now contents contents_now bytes
gathers-held contents contents_now was now bytes g = (g.0, g.1, sym (append-nil (was ++ bytes)) ∙ g.2)

-- then more was written
pub gathers-then : (contents mid contents_now : Option (List ℕ)) (was bytes : List ℕ) → Appends contents mid was → Appends mid contents_now bytes → Gathers was [] contents contents_now bytes
gathers-then contents mid contents_now was bytes first second = (was ++ bytes, Appends-trans contents mid contents_now was bytes first second, sym (append-nil (was ++ bytes)))

-- first a part was written, and then all of the rest, or a part of it
pub appends-rest : (contents mid contents_now : Option (List ℕ)) (was now : List ℕ) → Gathers was now contents mid [] → Appends mid contents_now now → Appends contents contents_now was
appends-rest contents mid contents_now was now g written = rw (sym (append-nil was) ∙ g.2) (Appends-trans contents mid contents_now g.0 now g.1 written)

pub part-rest : (contents mid contents_now : Option (List ℕ)) (was now bytes : List ℕ) → Gathers was now contents mid [] → GetsPart mid contents_now (now ++ bytes) → GetsPart contents contents_now (was ++ bytes)
part-rest contents mid contents_now was now bytes g part =
    let all : was ++ bytes ≡ g.0 ++ (now ++ bytes) = ap (λ xs. xs ++ bytes) (sym (append-nil was) ∙ g.2) ∙ append_assoc g.0 now bytes in
    (length g.0 + part.0, rw (all, length-append) (let less = part.1 in omega (arith, less)), rw (all, take-append-add) (Appends-trans contents mid contents_now g.0 (take part.0 (now ++ bytes)) g.1 part.2))

-- what is gathered is not nothing, if only a part of it was written
pub part-some : (contents contents_now : Option (List ℕ)) (was : List ℕ) → was ≡ [] → GetsPart contents contents_now was → ⊥
part-some contents contents_now was none part = let less = rw none at part.1 in omega (arith, less)

-- the same of what was gathered alone
pub part-later : (contents mid contents_now : Option (List ℕ)) (was now : List ℕ) → Gathers was now contents mid [] → GetsPart mid contents_now now → GetsPart contents contents_now was
part-later contents mid contents_now was now g part =
    let all : was ≡ g.0 ++ now = sym (append-nil was) ∙ g.2 in
    (length g.0 + part.0, rw (all, length-append) (let less = part.1 in omega (arith, less)), rw (all, take-append-add) (Appends-trans contents mid contents_now g.0 (take part.0 now) g.1 part.2))

-- first one, and then the other
pub gathers-both : (contents mid contents_now : Option (List ℕ)) (was later now bytes : List ℕ) → Gathers was later contents mid [] → Gathers later now mid contents_now bytes → Gathers was now contents contents_now bytes
gathers-both contents mid contents_now was later now bytes f g = (
  f.0 ++ g.0,
  Appends-trans contents mid contents_now f.0 g.0 f.1 g.1,
  ap (λ xs. xs ++ bytes) (sym (append-nil was) ∙ f.2) ∙ (append_assoc f.0 later bytes ∙ (ap (λ xs. f.0 ++ xs) g.2 ∙ sym (append_assoc f.0 g.0 now))),
)

-- it was not due, since something is left
pub undue : (contents contents_now : Option (List ℕ)) (was : List ℕ) (is_due : Bool) → (is_due ≡ true → was ≡ []) → GetsPart contents contents_now was → is_due ≡ false
undue contents contents_now was true none part = absurd (part-some contents contents_now was (none refl) part)
undue contents contents_now was false none part = refl

-- a part of these is a part of more
pub part-front : (contents contents_now : Option (List ℕ)) (was bytes : List ℕ) → GetsPart contents contents_now was → GetsPart contents contents_now (was ++ bytes)
part-front contents contents_now was bytes part =
    (part.0, rw length-append (let less = part.1 in omega (arith, less)), rw (take-append-le part.0 was bytes (let less = part.1 in omega (arith, less))) part.2)

-- all of these were written, and a part of more
pub part-then : (contents mid contents_now : Option (List ℕ)) (was bytes : List ℕ) → Appends contents mid was → GetsPart mid contents_now bytes → GetsPart contents contents_now (was ++ bytes)
part-then contents mid contents_now was bytes first part =
    (length was + part.0, rw length-append (let less = part.1 in omega (arith, less)), rw take-append-add (Appends-trans contents mid contents_now was (take part.0 bytes) first part.2))

-- a moment with another state of the writer
abbrev pub with_writer : Option (List ℕ) → ℕ → ℕ → Moment → Moment
with_writer contents faults stalls m = record m { contents = contents; write_faults = faults; stalls = stalls }

-- this many were taken; of what they printed the writer got the front, and the rest is gathered
pub record DrivenGathering (before now : Moment) (breaks : List BreakAt) (n : ℕ) (schedule : ScheduleState) (rest : Option (List ℕ)) (gathered : List ℕ) : Type 0 where
  pub known : Option (List ℕ)
  pub driven : Driven before (record now { contents = known }) breaks n schedule rest
  pub front : List ℕ
  pub got : Appends before.contents now.contents front
  pub all : written_bytes driven.taken ≡ front ++ gathered

pub gathering-none : (before : Moment) (breaks : List BreakAt) (schedule : ScheduleState) (rest : Option (List ℕ)) (gathered : List ℕ) → rest ≡ before.left → schedule ≡ first_schedule_state breaks
    → Agrees before.world before.calls → gathered ≡ [] → DrivenGathering before before breaks 0 schedule rest gathered
gathering-none before breaks schedule rest gathered same begins agrees none = record {
  known = before.contents;
  driven = driven-none before breaks schedule rest same begins agrees;
  front = [];
  got = Appends-nil before.contents;
  all = sym none;
}

-- all that is gathered was written
pub gathering-written : (before mid : Moment) (contents : Option (List ℕ)) (faults stalls : ℕ) (breaks : List BreakAt) (n : ℕ) (schedule : ScheduleState) (rest : Option (List ℕ)) (gathered : List ℕ)
    → DrivenGathering before mid breaks n schedule rest gathered → Appends mid.contents contents gathered → Driven before (with_writer contents faults stalls mid) breaks n schedule rest
gathering-written before mid contents faults stalls breaks n schedule rest gathered g written = record {
  taken = g.driven.taken;
  listed = g.driven.listed;
  count_is = g.driven.count_is;
  session = g.driven.session;
  schedule_is = g.driven.schedule_is;
  left_is = g.driven.left_is;
  written = rw g.all (Appends-trans before.contents mid.contents contents g.front gathered g.got written);
  calls_are = g.driven.calls_are;
}

-- known bytes grow by these
appends-known : (known : Option (List ℕ)) (bytes : List ℕ) → Appends known (append_known known bytes) bytes
appends-known None bytes = tt
appends-known (Some xs) bytes = refl

-- what was printed, with what one more prints
all-more : (before mid now : Moment) (breaks : List BreakAt) (n : ℕ) (schedule : ScheduleState) (rest later : Option (List ℕ)) (gathered : List ℕ) (next : Next) (out : Out) (g : DrivenGathering before mid breaks n schedule rest gathered)
    (t : TakesNextItem mid.world rest now.is_full mid.calls next now.world later now.calls out) → written_bytes (g.driven.taken ++ t.item ∷ []) ≡ g.front ++ (gathered ++ out.bytes)
all-more before mid now breaks n schedule rest later gathered next out g t =
    written-more g.driven.taken t.item ∙ (ap (λ xs. xs ++ bytes_of t.item) g.all ∙ (append_assoc g.front gathered (bytes_of t.item)
    ∙ ap (λ given. g.front ++ (gathered ++ given.bytes)) (sym t.takes.out_is)))

-- one more was taken
pub gathering-more : (before mid now : Moment) (breaks : List BreakAt) (n : ℕ) (was next : SessionState) → DrivenGathering before mid breaks n was.schedule (bytes_ahead was.held mid.left) was.gathered
    → GathersNext was next mid now → (mid.is_full ≡ true → now.is_full ≡ true) → Agrees now.world now.calls
    → DrivenGathering before now breaks (n + 1) next.schedule (bytes_ahead next.held now.left) next.gathered
gathering-more before mid now breaks n was next g t stays agrees = record {
  known = append_known g.known t.out.bytes;
  driven = driven-more before (record mid { contents = g.known }) (record now { contents = append_known g.known t.out.bytes }) breaks n was.schedule next.schedule (bytes_ahead was.held mid.left) (bytes_ahead next.held now.left) t.next t.out
      g.driven t.next_is stays t.takes agrees (appends-known g.known t.out.bytes) t.schedule_is;
  front = g.front ++ t.gathers.0;
  got = Appends-trans before.contents mid.contents now.contents g.front t.gathers.0 g.got t.gathers.1;
  all = all-more before mid now breaks n was.schedule (bytes_ahead was.held mid.left) (bytes_ahead next.held now.left) was.gathered t.next t.out g t.takes
      ∙ (ap (λ xs. g.front ++ xs) t.gathers.2 ∙ sym (append_assoc g.front t.gathers.0 next.gathered));
}

-- only a part of what is gathered was written
pub gathering-cut : (before mid now : Moment) (breaks : List BreakAt) (n : ℕ) (schedule : ScheduleState) (rest : Option (List ℕ)) (gathered : List ℕ) → DrivenGathering before mid breaks n schedule rest gathered
    → (mid.is_full ≡ true → now.is_full ≡ true) → now.world ≡ mid.world → now.calls ≡ mid.calls → GetsPart mid.contents now.contents gathered → CutSessionProgress before now breaks n
gathering-cut before mid now breaks n schedule rest gathered g stays world calls gets = record {
  taken = g.driven.taken;
  listed = g.driven.listed;
  count_is = g.driven.count_is;
  session = subst (λ w. Session before.world before.left breaks before.calls now.is_full g.driven.listed g.driven.taken w) (sym world)
      (full-session mid.is_full now.is_full before breaks g.driven.listed g.driven.taken mid.world stays g.driven.session);
  length_written = length g.front + gets.0;
  cut = rw (g.all, length-append) (let less = gets.1 in omega (arith, less));
  written = rw (g.all, take-append-add) (Appends-trans before.contents mid.contents now.contents g.front (take gets.0 gathered) g.got gets.2);
  calls_are = calls ∙ g.driven.calls_are;
}

-- one more was taken, and only a part of what was gathered and of what it printed was written
pub gathering-cut-more : (before mid now : Moment) (breaks : List BreakAt) (n : ℕ) (schedule : ScheduleState) (rest later : Option (List ℕ)) (gathered : List ℕ) (next : Next) (out : Out)
    → (g : DrivenGathering before mid breaks n schedule rest gathered) → scheduled_next schedule mid.world ≡ Some next → (mid.is_full ≡ true → now.is_full ≡ true)
    → TakesNextItem mid.world rest now.is_full mid.calls next now.world later now.calls out → Agrees now.world now.calls → GetsPart mid.contents now.contents (gathered ++ out.bytes) → CutSessionProgress before now breaks (n + 1)
gathering-cut-more before mid now breaks n schedule rest later gathered next out g here stays t agrees gets =
    let all = all-more before mid now breaks n schedule rest later gathered next out g t in
    record {
      taken = g.driven.taken ++ t.item ∷ [];
      listed = g.driven.listed ++ t.listed;
      count_is = count-more g.driven.taken t.item ∙ ap (λ i. i + 1) g.driven.count_is;
      session = session-more before (record mid { contents = g.known }) now breaks n schedule rest later next out g.driven here stays t agrees;
      length_written = length g.front + gets.0;
      cut = rw (all, length-append) (let less = gets.1 in omega (arith, less));
      written = rw (all, take-append-add) (Appends-trans before.contents mid.contents now.contents g.front (take gets.0 (gathered ++ out.bytes)) g.got gets.2);
      calls_are = calls-more before.calls mid.calls now.calls g.driven.listed t.listed g.driven.calls_are t.calls_are;
    }

-- by what was returned
pub gathers-by : (was now : SessionState) (before after : Moment) (is_taken : Bool) → is_taken ≡ true → HasGatherResult was now before after (Ok is_taken) → GathersNext was now before after
gathers-by was now before after true e took = took
gathers-by was now before after false e took = cc

pub writes-by : (was now : SessionState) (before after : Moment) (is_taken : Bool) → is_taken ≡ false → HasGatherResult was now before after (Ok is_taken) → WritesGathered was now before after (Ok false)
writes-by was now before after true e took = cc
writes-by was now before after false e took = took

-- a step whose fault is one of these
pub stops-when : (was now : SessionState) (before after : Moment) (result : Result Bool DriveFault) (P : DriveFault → Type 0) → IsErrAnd result P → (P Read → ⊥) → (P Memory → ⊥)
    → (P Write → StopsBefore was before after ⊎ StopsAfter was now before after) → (P Turns → ⊥) → HasGatherResult was now before after result
stops-when was now before after (Ok is_taken) P is read memory write turns = absurd is
stops-when was now before after (Err Read) P is read memory write turns = absurd (read is)
stops-when was now before after (Err Memory) P is read memory write turns = absurd (memory is)
stops-when was now before after (Err Write) P is read memory write turns = write is
stops-when was now before after (Err Turns) P is read memory write turns = absurd (turns is)

-- a step that took nothing, by its fault
pub refused-by : (was now : SessionState) (before after : Moment) (fault : IntakeFault) (why : DriveFault) → why ≡ drive_fault fault → (fault ≡ Unread → WritesGathered was now before after (Err Read))
    → (fault ≡ NoMemory → WritesGathered was now before after (Err Memory)) → HasGatherResult was now before after (Err why)
refused-by was now before after Unread why is read memory = rw is (read refl)
refused-by was now before after NoMemory why is read memory = rw is (memory refl)

-- the place after what came
following-low : (k : ℕ) → k < 61 → following_place k ≤ 61
following-low zero low = omega arith
following-low (suc k) low = omega (arith, low)

pub passed-place : (s : ScheduleState) (w : WorldState) (next : found.Next) → s.round.place ≤ 61 → MayCome w next → (passed_schedule_state s next).round.place ≤ 61
passed-place s w (BreakFound at) low may = low
passed-place s w (DueFound due_at) low may = following-low due_at.place may.0

-- a step counts what it took
pub gathered-counted : (was now : SessionState) (before after : Moment) → GathersNext was now before after → now.schedule.taken ≡ was.schedule.taken + 1
gathered-counted was now before after t = ap (λ s. s.taken) t.schedule_is ∙ following-taken was.schedule before.world t.next

-- of what is gathered only a part was written, and nothing else happened
pub stops-behind : (turns n : ℕ) (breaks : List BreakAt) (before mid now : Moment) (schedule : ScheduleState) (rest : Option (List ℕ)) (gathered : List ℕ) → DrivenGathering before mid breaks n schedule rest gathered → n ≤ turns
    → (mid.is_full ≡ true → now.is_full ≡ true) → now.world ≡ mid.world → now.calls ≡ mid.calls → GetsPart mid.contents now.contents gathered
    → FailsToWrite mid.write_faults now.write_faults mid.stalls now.stalls → ReadsWell before now → WritesWell before mid → StopsAtWrite turns breaks before now
stops-behind turns n breaks before mid now schedule rest gathered g within stays world calls gets cause reads writes = record {
  n = n;
  within = within;
  stands = gathering-cut before mid now breaks n schedule rest gathered g stays world calls gets;
  cause = rw (writes.0, writes.1) at cause;
  reads_well = reads;
}

-- no more was taken, or its bytes were not written: the drive stops as the step did
pub stops-gathering : (turns n : ℕ) (breaks : List BreakAt) (before mid now : Moment) (was next : SessionState) → DrivenGathering before mid breaks n was.schedule (bytes_ahead was.held mid.left) was.gathered → n < turns
    → was.schedule.round.place ≤ 61 → (mid.is_full ≡ true → now.is_full ≡ true) → length next.held < 4096 → ReadsWell before mid → WritesWell before mid
    → (fault : DriveFault) → HasGatherResult was next mid now (Err fault) → HasDriveResult turns breaks before now (Err fault)
stops-gathering turns n breaks before mid now was next g few in_round stays less reads writes Read s =
    stops-by turns n breaks before (record mid { contents = now.contents }) now was next
    (gathering-written before mid now.contents mid.write_faults mid.stalls breaks n was.schedule (bytes_ahead was.held mid.left) was.gathered g s.written) few in_round stays less reads writes Read s.takes
stops-gathering turns n breaks before mid now was next g few in_round stays less reads writes Memory s =
    stops-by turns n breaks before (record mid { contents = now.contents }) now was next
    (gathering-written before mid now.contents mid.write_faults mid.stalls breaks n was.schedule (bytes_ahead was.held mid.left) was.gathered g s.written) few in_round stays less reads writes Memory s.takes
stops-gathering turns n breaks before mid now was next g few in_round stays less reads writes Write (inl s) =
    stops-behind turns n breaks before mid now was.schedule (bytes_ahead was.held mid.left) was.gathered g (omega (arith, few)) stays s.world_is s.calls_are s.gets s.cause (s.reads_well ∙ reads) writes
stops-gathering turns n breaks before mid now was next g few in_round stays less reads writes Write (inr s) = record {
  n = n + 1;
  within = omega (arith, few);
  stands = gathering-cut-more before mid now breaks n was.schedule (bytes_ahead was.held mid.left) (bytes_ahead next.held now.left) was.gathered s.next s.out g s.next_is stays s.takes s.agrees s.gets;
  cause = rw (writes.0, writes.1) at s.cause;
  reads_well = s.reads_well ∙ reads;
}
stops-gathering turns n breaks before mid now was next g few in_round stays less reads writes Turns s = absurd s
