-- What is gathered for a writer: bytes that were printed, and are written together with what is printed after them.
use Rattle.std.specs.Prelude.{◌≡◌, ◌⊎◌, ℕ, ◌+◌, ◌<◌, List, ◌++◌, length, take, Bool, true, false, Option, Some, Result, Ok, Err}
use Rattle.std.specs.Io.KnownBytes.{Appends}
use Rattle.ados_machine.specs.declared.outs.Out.{Out}
use Rattle.ados_launch.specs.declared.faults.DriveFault.{DriveFault}
use Rattle.ados_launch.specs.declared.faults.DriveFault.TheVariants.{Read, Write, Turns, Memory}
use Rattle.ados_launch.specs.Agreement.{Agrees}
use Rattle.ados_launch.specs.Drives.{ReadsWell, WritesWell}
use Rattle.ados_launch.specs.Faults.{one_more}
use Rattle.ados_launch.specs.Intake.{TakesNextItem}
use Rattle.ados_launch.specs.Lines.{bytes_ahead}
use Rattle.ados_launch.specs.Schedule.{Next, scheduled_next, following_schedule_state}
use Rattle.ados_launch.specs.Session.{Moment}
use Rattle.ados_launch.specs.Steps.{SessionState, StopsUntaken}

-- A writer got some bytes, and some are gathered now: together they are those that were gathered, followed by `bytes`.
abbrev pub Gathers : (was now : List ℕ) → (contents contents_now : Option (List ℕ)) → (bytes : List ℕ) → Type 0
Gathers was now contents contents_now bytes = (got : List ℕ) × Appends contents contents_now got × (was ++ bytes ≡ got ++ now)

-- a writer got the first of these bytes, and not all; `contents` and `contents_now` are what it held and holds
abbrev pub GetsPart : (contents contents_now : Option (List ℕ)) → (bytes : List ℕ) → Type 0
GetsPart contents contents_now bytes = (length_written : ℕ) × (length_written < length bytes) × Appends contents contents_now (take length_written bytes)

-- by the counts before and after, one write failed, or one wrote nothing
abbrev pub FailsToWrite : (faults faults_now stalls stalls_now : ℕ) → Type 0
FailsToWrite faults faults_now stalls stalls_now =
    ((faults_now ≡ faults + 1) × (stalls_now ≡ stalls)) ⊎ ((faults_now ≡ faults) × (stalls_now ≡ one_more stalls))

-- A step of a session, between two states and two moments: what came next was taken, and what it printed is gathered or written.
pub record GathersNext (was now : SessionState) (before after : Moment) : Type 0 where
  pub next : Next
  pub next_is : scheduled_next was.schedule before.world ≡ Some next
  pub out : Out
  pub takes : TakesNextItem before.world (bytes_ahead was.held before.left) after.is_full before.calls next after.world (bytes_ahead now.held after.left) after.calls out
  pub schedule_is : now.schedule ≡ following_schedule_state was.schedule before.world next
  pub gathers : Gathers was.gathered now.gathered before.contents after.contents out.bytes
  pub reports_are : now.reports ≡ out.reports
  pub reads_well : ReadsWell before after
  pub writes_well : WritesWell before after

-- A step of a session, between two states and two moments: what was gathered was written, and then the step took nothing, with this result.
pub record WritesGathered (was now : SessionState) (before after : Moment) (result : Result Bool DriveFault) : Type 0 where
  pub written : Appends before.contents after.contents was.gathered
  pub none_is : length now.gathered ≡ 0
  pub takes : StopsUntaken was now (record before { contents = after.contents }) after result

-- A step of a session: nothing was taken, nor asked of the reader or the launcher, and only a part of what was gathered was written.
pub record StopsBefore (was : SessionState) (before after : Moment) : Type 0 where
  pub world_is : after.world ≡ before.world
  pub calls_are : after.calls ≡ before.calls
  pub gets : GetsPart before.contents after.contents was.gathered
  pub cause : FailsToWrite before.write_faults after.write_faults before.stalls after.stalls
  pub reads_well : ReadsWell before after

-- A step of a session, between two states and two moments: what came next was taken, and only a part of what was gathered and of what it
-- printed was written.
pub record StopsAfter (was now : SessionState) (before after : Moment) : Type 0 where
  pub next : Next
  pub next_is : scheduled_next was.schedule before.world ≡ Some next
  pub out : Out
  pub takes : TakesNextItem before.world (bytes_ahead was.held before.left) after.is_full before.calls next after.world (bytes_ahead now.held after.left) after.calls out
  pub agrees : Agrees after.world after.calls
  pub gets : GetsPart before.contents after.contents (was.gathered ++ out.bytes)
  pub reports_are : now.reports ≡ out.reports
  pub cause : FailsToWrite before.write_faults after.write_faults before.stalls after.stalls
  pub reads_well : ReadsWell before after

-- what a step of a session whose output is gathered leaves, by its result; the Bool says whether anything was taken
abbrev pub HasGatherResult : SessionState → SessionState → Moment → Moment → Result Bool DriveFault → Type 0
HasGatherResult was now before after (Ok true) = GathersNext was now before after
HasGatherResult was now before after (Ok false) = WritesGathered was now before after (Ok false)
HasGatherResult was now before after (Err Read) = WritesGathered was now before after (Err Read)
HasGatherResult was now before after (Err Memory) = WritesGathered was now before after (Err Memory)
HasGatherResult was now before after (Err Write) = StopsBefore was before after ⊎ StopsAfter was now before after
HasGatherResult was now before after (Err Turns) = ⊥
