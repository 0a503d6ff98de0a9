-- Steps of a session that is driven event by event: what one leaves, by its result.
use Rattle.std.specs.Prelude.{◌≡◌, ℕ, List, Bool, true, false, Option, Some, None, Result, Ok, Err}
use Rattle.ados_find.specs.declared.outcomes.Renames.{Renames}
use Rattle.ados_machine.specs.declared.outs.EndReport.{EndReport}
use Rattle.ados_machine.specs.declared.requests.Request.{Request}
use Rattle.ados_machine.specs.World.{WorldState, pending_of}
use Rattle.ados_launch.specs.declared.faults.DriveFault.{DriveFault}
use Rattle.ados_launch.specs.declared.faults.DriveFault.TheVariants.{Read, Write, Turns, Memory}
use Rattle.ados_launch.specs.Drives.{WritesWell}
use Rattle.ados_launch.specs.Intake.{FailsToRead, LacksMemory}
use Rattle.ados_launch.specs.Lines.{bytes_ahead}
use Rattle.ados_launch.specs.Schedule.{Next, AtBreak, AtLine, AtTurn, AtStart, AtFurther, ScheduleState, scheduled_next}
use Rattle.ados_launch.specs.Session.{Moment}

-- the state of a session: its schedule, the bytes that were read ahead, which children are open, by number, the scripts that
-- ended at the last event, what the last turn renamed, until it is taken, and the bytes that are gathered for the writer
pub record SessionState : Type 0 where
  pub schedule : ScheduleState
  pub held : List ℕ
  pub children : List Bool
  pub reports : List EndReport
  pub renamed : Option Renames
  pub gathered : List ℕ

-- what the next event, if one comes, asks of the launcher
abbrev pub next_request : WorldState → Option Next → Option Request
next_request w (Some (AtStart k)) = pending_of w k
next_request w (Some (AtFurther k)) = pending_of w k
next_request w (Some (AtTurn k)) = None
next_request w (Some (AtBreak k kind)) = None
next_request w (Some AtLine) = None
next_request w None = None

-- A step of a session, between two states and two moments: nothing comes, and nothing happened.
pub record TakesNothing (was now : SessionState) (before after : Moment) : Type 0 where
  pub none : scheduled_next was.schedule before.world ≡ None
  pub stays : after ≡ before
  pub round_is : now.schedule.round ≡ was.schedule.round
  pub taken_is : now.schedule.taken ≡ was.schedule.taken
  pub held_is : now.held ≡ was.held
  pub reports_are : now.reports ≡ was.reports

-- Between two moments what comes next was not taken, and so nothing was written.
pub record TakesNotNext (before after : Moment) : Type 0 where
  pub world_is : after.world ≡ before.world
  pub contents_are : after.contents ≡ before.contents
  pub writes_well : WritesWell before after

-- A step of a session, between two states and two moments: what comes next is a line, and it could not be read.
pub record StopsUnread (was now : SessionState) (before after : Moment) : Type 0 where
  pub next : Next
  pub next_is : scheduled_next was.schedule before.world ≡ Some next
  pub fails : FailsToRead next before.read_faults after.read_faults (bytes_ahead was.held before.left) (bytes_ahead now.held after.left) before.calls after.calls
  pub not_taken : TakesNotNext before after

-- A step of a session, between two states and two moments: there was no memory for what comes next.
pub record StopsWithoutMemory (was now : SessionState) (before after : Moment) : Type 0 where
  pub next : Next
  pub next_is : scheduled_next was.schedule before.world ≡ Some next
  pub lacks : LacksMemory before.world next before.read_faults after.read_faults (bytes_ahead was.held before.left) (bytes_ahead now.held after.left) before.calls after.calls
  pub not_taken : TakesNotNext before after

-- a run stopped since the writer failed, or wrote nothing
abbrev pub is_write : DriveFault → Bool
is_write Read = false
is_write Write = true
is_write Turns = false
is_write Memory = false

-- what a step of a session leaves that took nothing, by its result
abbrev pub StopsUntaken : SessionState → SessionState → Moment → Moment → Result Bool DriveFault → Type 0
StopsUntaken was now before after (Ok true) = ⊥
StopsUntaken was now before after (Ok false) = TakesNothing was now before after
StopsUntaken was now before after (Err Read) = StopsUnread was now before after
StopsUntaken was now before after (Err Memory) = StopsWithoutMemory was now before after
StopsUntaken was now before after (Err Write) = ⊥
StopsUntaken was now before after (Err Turns) = ⊥
