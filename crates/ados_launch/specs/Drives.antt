-- Drives: what a call of `Drive::run` leaves of world, reader, writer and launcher, by its result. A `Moment` is these four at one time.
use Rattle.std.specs.Prelude.{◌≡◌, ◌⊎◌, ℕ, ◌+◌, ◌<◌, ◌≤◌, List, [], ◌++◌, length, take, true, Some, Result, Ok, Err}
use Rattle.std.specs.Io.KnownBytes.{Appends}
use Rattle.ados_machine.specs.declared.events.BreakAt.{BreakAt}
use Rattle.ados_machine.specs.World.{codes_at, is_over}
use Rattle.ados_launcher.specs.declared.calls.Call.{Call}
use Rattle.ados_launch.specs.declared.driver.End.{End}
use Rattle.ados_launch.specs.declared.faults.DriveFault.{DriveFault}
use Rattle.ados_launch.specs.declared.faults.DriveFault.TheVariants.{Read, Write, Turns, Memory}
use Rattle.ados_launch.specs.Agreement.{AreOver, WaitsForOpen}
use Rattle.ados_launch.specs.Faults.{one_more}
use Rattle.ados_launch.specs.Lines.{IfKnown}
use Rattle.ados_launch.specs.NoFurther.{ReadsOnlyDueLine}
use Rattle.ados_launch.specs.Rounds.{IsRunning}
use Rattle.ados_launch.specs.Schedule.{next_after_taken, has_open_input, IsLineNext}
use Rattle.ados_launch.specs.Session.{Moment, AreDropped, IsReadAhead, LeavesOverlong, Session, SessionProgress, CutSessionProgress}
use Rattle.ados_launch.specs.Taken.{TakenItem, written_bytes, rest_after_items}

-- between two moments no read failed
abbrev pub ReadsWell : Moment → Moment → Type 0
ReadsWell before now = now.read_faults ≡ before.read_faults

-- between two moments no write failed, and none stalled (wrote nothing)
abbrev pub WritesWell : Moment → Moment → Type 0
WritesWell before now = (now.write_faults ≡ before.write_faults) × (now.stalls ≡ before.stalls)

-- The run between two moments came to its end, which is the result: no shell is left.
pub record ComesToEnd (turns : ℕ) (breaks : List BreakAt) (before now : Moment) (end : End) : Type 0 where
  -- as many were taken as the result says, all of their bytes were written, and nothing else was asked of the launcher
  pub stands : SessionProgress before now breaks end.events []
  pub within : end.events ≤ turns
  pub no_shell : is_over now.world ≡ true
  pub code : end.code ≡ (codes_at now.world 1).code
  pub result2 : end.result2 ≡ (codes_at now.world 1).result2
  pub reads_well : ReadsWell before now
  pub writes_well : WritesWell before now
  -- the reader reached its end, unless shell 1 or its input had ended before
  pub reader_ended : IfKnown before.left (λ bytes. has_open_input before.world ≡ true → now.left ≡ Some [])

-- Between two moments as many events and long lines as allowed were taken, all of their bytes were written, and something is due.
pub record StopsAtTurns (turns : ℕ) (breaks : List BreakAt) (before now : Moment) : Type 0 where
  pub stands : SessionProgress before now breaks turns []
  pub running : IsRunning now.world
  -- nothing was read for what is due: what is left follows the lines that were taken, except for fewer than 4,096 bytes
  -- that were read with them
  pub unread : IfKnown before.left (λ bytes. IsReadAhead (rest_after_items bytes stands.taken) now.left)
  pub reads_well : ReadsWell before now
  pub writes_well : WritesWell before now

-- Between two moments fewer events and long lines than allowed were taken, all of their bytes were written, and something is due, for which
-- there was no memory; at most one call was made for it.
pub record StopsAtMemory (turns : ℕ) (breaks : List BreakAt) (before now : Moment) : Type 0 where
  pub n : ℕ
  pub few : n < turns
  pub dropped : List Call
  pub stands : SessionProgress before now breaks n dropped
  pub dropped_is : AreDropped now.world (next_after_taken breaks before.world stands.taken now.world) dropped
  pub running : IsRunning now.world
  -- what is left follows the lines that were taken, or is in or after the line that is due, except for fewer than 4,096 bytes
  -- that were read with them
  pub unread : IfKnown before.left (λ bytes. ReadsOnlyDueLine (next_after_taken breaks before.world stands.taken now.world) (rest_after_items bytes stands.taken) now.left)
  pub reads_well : ReadsWell before now
  pub writes_well : WritesWell before now

-- Between two moments fewer events and long lines than allowed were taken, all of their bytes were written, and a line is due: its read
-- failed, or it is too long to be read. In the second case no read failed, and what is left follows its first 65,537 bytes, except for
-- fewer than 4,096 bytes that were read with them.
pub record StopsAtRead (turns : ℕ) (breaks : List BreakAt) (before now : Moment) : Type 0 where
  pub n : ℕ
  pub few : n < turns
  pub stands : SessionProgress before now breaks n []
  pub reading : IsLineNext breaks before.world stands.taken now.world
  pub cause : (now.read_faults ≡ before.read_faults + 1)
      ⊎ (ReadsWell before now × IfKnown before.left (λ bytes. LeavesOverlong (rest_after_items bytes stands.taken) now.left))
  pub writes_well : WritesWell before now

-- Between two moments a prefix of what was printed was written, and not all: a write failed or wrote nothing.
pub record StopsAtWrite (turns : ℕ) (breaks : List BreakAt) (before now : Moment) : Type 0 where
  pub n : ℕ
  pub within : n ≤ turns
  pub stands : CutSessionProgress before now breaks n
  -- one write failed, or one wrote nothing
  pub cause : ((now.write_faults ≡ before.write_faults + 1) × (now.stalls ≡ before.stalls))
      ⊎ ((now.write_faults ≡ before.write_faults) × (now.stalls ≡ one_more before.stalls))
  pub reads_well : ReadsWell before now

-- between two moments a run of the schedule had this result: the end of all shells, or a stop for one of four reasons
abbrev pub HasDriveResult : ℕ → List BreakAt → Moment → Moment → Result End DriveFault → Type 0
HasDriveResult turns breaks before now (Ok end) = ComesToEnd turns breaks before now end
HasDriveResult turns breaks before now (Err Turns) = StopsAtTurns turns breaks before now
HasDriveResult turns breaks before now (Err Memory) = StopsAtMemory turns breaks before now
HasDriveResult turns breaks before now (Err Read) = StopsAtRead turns breaks before now
HasDriveResult turns breaks before now (Err Write) = StopsAtWrite turns breaks before now

-- What was taken between two moments, however it ended, is a session: a run of the machine, which accepted each event, in the order of the
-- schedule. The launcher's list has the calls for what was taken, and after these at most one, for the reply that comes next and was not
-- taken. A prefix of what was printed was written.
pub record TakesSession (turns : ℕ) (breaks : List BreakAt) (before now : Moment) : Type 0 where
  pub taken : List TakenItem
  pub listed : List Call
  pub dropped : List Call
  pub within : length taken ≤ turns
  pub session : Session before.world before.left breaks before.calls now.is_full listed taken now.world
  pub dropped_is : AreDropped now.world (next_after_taken breaks before.world taken now.world) dropped
  pub calls_are : now.calls ≡ before.calls ++ (listed ++ dropped)
  pub length_written : ℕ
  pub written : Appends before.contents now.contents (take length_written (written_bytes taken))

-- From one moment a drive leads to another, with this result.
pub record Drives (turns : ℕ) (breaks : List BreakAt) (before now : Moment) (result : Result End DriveFault) : Type 0 where
  -- The calls of the launcher before the waits at the end.
  pub called : List Call
  -- At every end, whatever the reader, the writer and the launcher do, a session was taken.
  pub takes : TakesSession turns breaks before (record now { calls = called })
  -- What the result says is true of the session.
  pub comes_to : HasDriveResult turns breaks before (record now { calls = called }) result
  -- Then each open child process was waited for once, in ascending order of its shell's number, and nothing else was called.
  pub waits : WaitsForOpen called now.calls
  -- At every end no child process is open, and each was waited for once: the calls for each number are a sequence of complete lifecycles.
  pub over : AreOver now.calls
