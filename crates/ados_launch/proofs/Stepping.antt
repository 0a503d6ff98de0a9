-- What a step of a session leaves, as a part of a whole drive.
use Rattle.std.proofs.Common.{◌≡◌, ◌∙◌, ℕ, ◌+◌, ◌<◌, ◌≤◌, List, true, false, is_none, None, length, Result, Ok, Err, refl, sym, arith, IsErrOf}
use Rattle.std.specs.Prelude.{IsErrAnd, IfOk, OnOk, OnErr}
use Rattle.ados_machine.specs.declared.events.BreakAt.{BreakAt}
use Rattle.ados_machine.specs.World.{WorldState, codes_at}
use Rattle.ados_launch.specs.declared.driver.End.{End}
use Rattle.ados_launch.specs.declared.faults.DriveFault.{DriveFault}
use Rattle.ados_launch.specs.declared.faults.DriveFault.TheVariants.{Read, Write, Turns, Memory}
use Rattle.ados_launcher.specs.declared.calls.Call.{Call}
use Rattle.ados_launch.specs.Agreement.{Agrees, AreOver}
use Rattle.ados_launch.specs.Drives.{ComesToEnd, HasDriveResult, ReadsWell, WritesWell}
use Rattle.ados_launch.specs.Lines.{bytes_ahead}
use Rattle.ados_launch.specs.Rounds.{due_place}
use Rattle.ados_launch.specs.Schedule.{Next, AtBreak, AtLine, AtTurn, AtStart, AtFurther, ScheduleState, following_schedule_state, scheduled_next}
use Rattle.ados_launch.specs.Session.{Moment}
use Rattle.ados_launch.specs.Steps.{SessionState, StopsUntaken, TakesNothing}
use Rattle.ados_launch.proofs.Coming.{due-none, due-some, next-none}
use Rattle.ados_launch.proofs.Over.{calls-over, over}
use Rattle.ados_launch.proofs.Places.{idle, running}
use Rattle.ados_launch.proofs.Outcomes.{ends, stops-memory, stops-read, stops-turns}
use Rattle.ados_launch.proofs.Sessions.{Driven}

-- a step that took nothing stops the drive
pub stops-by : (turns n : ℕ) (breaks : List BreakAt) (before mid now : Moment) (was next : SessionState) → Driven before mid breaks n was.schedule (bytes_ahead was.held mid.left) → n < turns
    → was.schedule.round.place ≤ 61 → (mid.is_full ≡ true → now.is_full ≡ true) → length next.held < 4096 → ReadsWell before mid → WritesWell before mid
    → (fault : DriveFault) → StopsUntaken was next mid now (Err fault) → HasDriveResult turns breaks before now (Err fault)
stops-by turns n breaks before mid now was next d few in_round stays less reads writes Read s =
    stops-read turns n breaks before mid now was.schedule (bytes_ahead was.held mid.left) next.held d few (rw s.fails.next_is at s.next_is) stays
    s.not_taken.world_is s.not_taken.contents_are s.fails.calls_are less reads s.fails.cause
    (s.not_taken.writes_well.0 ∙ writes.0, s.not_taken.writes_well.1 ∙ writes.1)
stops-by turns n breaks before mid now was next d few in_round stays less reads writes Memory s =
    stops-memory turns n breaks before mid now was.schedule (bytes_ahead was.held mid.left) next.held s.next s.lacks.dropped d few in_round s.next_is stays
    s.not_taken.world_is s.not_taken.contents_are s.lacks.calls_are s.lacks.dropped_is less s.lacks.unread (s.lacks.reads_well ∙ reads)
    (s.not_taken.writes_well.0 ∙ writes.0, s.not_taken.writes_well.1 ∙ writes.1)
stops-by turns n breaks before mid now was next d few in_round stays less reads writes Write s = absurd s
stops-by turns n breaks before mid now was next d few in_round stays less reads writes Turns s = absurd s

-- nothing comes any longer: no shell is left, and so no child is open
pub session-over : (was : SessionState) (w : WorldState) (calls : List Call) → Agrees w calls → length w.shells ≡ 20 → scheduled_next was.schedule w ≡ None → AreOver calls
session-over was w calls agrees size none = calls-over w calls agrees (over w size (idle was.schedule.round w (next-none was.schedule w none)))

pub finished-over : (was : SessionState) (w : WorldState) (calls : List Call) → Agrees w calls → length w.shells ≡ 20 → is_none (due_place was.schedule.round w) ≡ true → AreOver calls
finished-over was w calls agrees size none = calls-over w calls agrees (over w size (idle was.schedule.round w (due-none (due_place was.schedule.round w) true (sym none) refl)))

-- a step counts what it took
pub following-taken : (s : ScheduleState) (w : WorldState) (next : Next) → (following_schedule_state s w next).taken ≡ s.taken + 1
following-taken s w (AtBreak shell kind) = refl
following-taken s w AtLine = refl
following-taken s w (AtTurn shell) = refl
following-taken s w (AtStart shell) = refl
following-taken s w (AtFurther shell) = refl

-- a drive whose fault is this one
pub stops-at : (turns : ℕ) (breaks : List BreakAt) (before now : Moment) (result : Result End DriveFault) (fault : DriveFault) → IsErrAnd result (λ why. why ≡ fault) →
    HasDriveResult turns breaks before now (Err fault) → HasDriveResult turns breaks before now result
stops-at turns breaks before now (Ok end) fault is stops = absurd is
stops-at turns breaks before now (Err why) fault is stops = rw is stops

-- nothing comes: the drive has come to its end
pub ends-nothing : (turns n : ℕ) (breaks : List BreakAt) (before mid now : Moment) (was next : SessionState) (end : End) → Driven before mid breaks n was.schedule (bytes_ahead was.held mid.left)
    → TakesNothing was next mid now → n < turns → was.schedule.taken ≡ n → end.events ≡ next.schedule.taken → end.code ≡ (codes_at now.world 1).code → end.result2 ≡ (codes_at now.world 1).result2
    → length now.world.shells ≡ 20 → ReadsWell before mid → WritesWell before mid → ComesToEnd turns breaks before now end
ends-nothing turns n breaks before mid now was next end d t few count events code result2 size reads writes =
    rw t.stays
    (ends turns n breaks before mid was.schedule was.held end d (omega (arith, few)) (events ∙ (t.taken_is ∙ count)) (rw t.stays at code) (rw t.stays at result2) (rw t.stays at size)
    (idle was.schedule.round mid.world (next-none was.schedule mid.world t.none)) reads writes)

-- no more are allowed
pub finish-by : (turns n : ℕ) (breaks : List BreakAt) (before now : Moment) (was : SessionState) (result : Result End DriveFault) → Driven before now breaks n was.schedule (bytes_ahead was.held now.left)
    → n ≡ turns → was.schedule.round.place ≤ 61 → was.schedule.taken ≡ n → length was.held < 4096 → ReadsWell before now → WritesWell before now
    → IfOk result (λ end. (end.code ≡ (codes_at now.world 1).code) × (end.result2 ≡ (codes_at now.world 1).result2) × (end.events ≡ was.schedule.taken) × (length now.world.shells ≡ 20))
    → OnOk result (is_none (due_place was.schedule.round now.world) ≡ true) → (IsErrOf result Turns → is_none (due_place was.schedule.round now.world) ≡ false) → OnErr result (IsErrOf result Turns)
    → HasDriveResult turns breaks before now result
finish-by turns n breaks before now was (Ok end) d all in_round count less reads writes is over some only =
    ends turns n breaks before now was.schedule was.held end d (omega (arith, all)) (is.2 ∙ count) is.0 is.1 is.3
    (idle was.schedule.round now.world (due-none (due_place was.schedule.round now.world) true (sym over) refl)) reads writes
finish-by turns n breaks before now was (Err Turns) d all in_round count less reads writes is over some only =
    let due = due-some (due_place was.schedule.round now.world) false (sym (some only)) refl in
    stops-turns turns n breaks before now was.schedule was.held d all less (running was.schedule.round due.0 now.world in_round due.1) reads writes
finish-by turns n breaks before now was (Err Read) d all in_round count less reads writes is over some only = cc
finish-by turns n breaks before now was (Err Write) d all in_round count less reads writes is over some only = cc
finish-by turns n breaks before now was (Err Memory) d all in_round count less reads writes is over some only = cc
