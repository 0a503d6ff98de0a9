-- The result of a schedule, for each way in which it can end.
use Rattle.std.proofs.Common.{◌≡◌, ℕ, ◌<◌, ◌≤◌, List, [], ◌++◌, Bool, true, length, Option, Some, Result, Ok, Err, arith, sym, subst, ◌∙◌, append-nil}
use Rattle.std.specs.Prelude.{IsErrAnd}
use Rattle.ados_machine.specs.declared.events.BreakAt.{BreakAt}
use Rattle.ados_machine.specs.World.{codes_at}
use Rattle.ados_launcher.specs.declared.calls.Call.{Call}
use Rattle.ados_launch.specs.declared.driver.End.{End}
use Rattle.ados_launch.specs.declared.faults.DriveFault.{DriveFault}
use Rattle.ados_launch.specs.declared.faults.DriveFault.TheVariants.{Read, Write, Turns, Memory}
use Rattle.ados_launch.specs.Agreement.{Agrees, AreOver, WaitsForOpen}
use Rattle.ados_launch.specs.Drives.{HasDriveResult, ComesToEnd, Drives, ReadsWell, StopsAtMemory, StopsAtRead, StopsAtTurns, StopsAtWrite, WritesWell}
use Rattle.ados_launch.specs.Lines.{bytes_ahead, IsUnreadable, IfKnown}
use Rattle.ados_launch.specs.NoFurther.{TakesPartAt}
use Rattle.ados_launch.specs.Rounds.{IsIdle, IsRunning}
use Rattle.ados_launch.specs.Schedule.{Next, AtLine, ScheduleState, scheduled_next}
use Rattle.ados_launch.specs.Session.{AreDropped, Moment, SessionProgress}
use Rattle.ados_launch.proofs.Coming.{next-running}
use Rattle.ados_launch.proofs.Over.{calls-over, over}
use Rattle.ados_launch.proofs.PartLines.{no-further}
use Rattle.ados_launch.proofs.ReaderEnd.{reader-ended}
use Rattle.ados_launch.proofs.Sessions.{Driven, next-dropped, next-is, stands, stands-after, takes-session, why-read}
use Rattle.ados_launch.proofs.Waits.{none-open}

pub ends : (turns n : ℕ) (breaks : List BreakAt) (before now : Moment) (schedule : ScheduleState) (held : List ℕ) (end : End) → Driven before now breaks n schedule (bytes_ahead held now.left) → n ≤ turns
    → end.events ≡ n → end.code ≡ (codes_at now.world 1).code → end.result2 ≡ (codes_at now.world 1).result2 → length now.world.shells ≡ 20 → IsIdle now.world → ReadsWell before now → WritesWell before now
    → ComesToEnd turns breaks before now end
ends turns n breaks before now schedule held end d within count code result2 size idle reads writes = record {
  stands = subst (λ m. SessionProgress before now breaks m []) (sym count) (stands before now breaks n schedule (bytes_ahead held now.left) d);
  within = omega (arith, count, within);
  no_shell = over now.world size idle;
  code = code;
  result2 = result2;
  reads_well = reads;
  writes_well = writes;
  reader_ended = λ bytes e. reader-ended before.world bytes d.taken now.world held now.left d.session.run (d.session.lines bytes e) (d.left_is bytes e) idle;
}

pub stops-turns : (turns n : ℕ) (breaks : List BreakAt) (before now : Moment) (schedule : ScheduleState) (held : List ℕ) → Driven before now breaks n schedule (bytes_ahead held now.left) → n ≡ turns → length held < 4096
    → IsRunning now.world → ReadsWell before now → WritesWell before now → StopsAtTurns turns breaks before now
stops-turns turns n breaks before now schedule held d count few running reads writes =
    subst (λ m. StopsAtTurns m breaks before now) count (record {
      stands = stands before now breaks n schedule (bytes_ahead held now.left) d;
      running = running;
      unread = λ bytes e. (held, few, d.left_is bytes e);
      reads_well = reads;
      writes_well = writes;
    })

pub stops-memory : (turns n : ℕ) (breaks : List BreakAt) (before mid now : Moment) (schedule : ScheduleState) (rest : Option (List ℕ)) (held : List ℕ) (next : Next) (dropped : List Call) → Driven before mid breaks n schedule rest → n < turns
    → schedule.round.place ≤ 61 → scheduled_next schedule mid.world ≡ Some next → (mid.is_full ≡ true → now.is_full ≡ true) → now.world ≡ mid.world → now.contents ≡ mid.contents → now.calls ≡ mid.calls ++ dropped
    → AreDropped mid.world (Some next) dropped → length held < 4096 → IfKnown rest (λ bytes. TakesPartAt next bytes (bytes_ahead held now.left)) → ReadsWell before now → WritesWell before now
    → StopsAtMemory turns breaks before now
stops-memory turns n breaks before mid now schedule rest held next dropped d few in_round here stays world written calls one less part reads writes = record {
  n = n;
  few = few;
  dropped = dropped;
  stands = stands-after before mid now breaks n schedule rest dropped stays world written calls d;
  dropped_is = rw world (next-dropped before mid breaks n schedule rest next dropped d here one);
  running = rw world (next-running schedule mid.world next in_round here);
  unread = rw world (no-further before mid breaks n schedule rest next held now.left d here less part);
  reads_well = reads;
  writes_well = writes;
}

pub stops-read : (turns n : ℕ) (breaks : List BreakAt) (before mid now : Moment) (schedule : ScheduleState) (rest : Option (List ℕ)) (held : List ℕ) → Driven before mid breaks n schedule rest → n < turns
    → scheduled_next schedule mid.world ≡ Some AtLine → (mid.is_full ≡ true → now.is_full ≡ true) → now.world ≡ mid.world → now.contents ≡ mid.contents → now.calls ≡ mid.calls → length held < 4096
    → ReadsWell before mid → IsUnreadable mid.read_faults now.read_faults rest (bytes_ahead held now.left)
    → WritesWell before now → StopsAtRead turns breaks before now
stops-read turns n breaks before mid now schedule rest held d few here stays world written calls less reads cause writes = record {
  n = n;
  few = few;
  stands = stands-after before mid now breaks n schedule rest [] stays world written (calls ∙ sym (append-nil mid.calls)) d;
  reading = rw world (next-is before mid breaks n schedule rest AtLine d here);
  cause = why-read before mid breaks n schedule rest d mid.read_faults before.read_faults now.read_faults held now.left reads less cause;
  writes_well = writes;
}

-- by its fault
pub comes-by : (turns : ℕ) (breaks : List BreakAt) (before now : Moment) (result : Result End DriveFault) (P : DriveFault → Type 0) → IsErrAnd result P → (P Memory → StopsAtMemory turns breaks before now)
    → (P Read → StopsAtRead turns breaks before now) → (P Write → StopsAtWrite turns breaks before now) → (P Turns → StopsAtTurns turns breaks before now) → HasDriveResult turns breaks before now result
comes-by turns breaks before now (Ok end) P is memory read write out = absurd is
comes-by turns breaks before now (Err Memory) P is memory read write out = memory is
comes-by turns breaks before now (Err Read) P is memory read write out = read is
comes-by turns breaks before now (Err Write) P is memory read write out = write is
comes-by turns breaks before now (Err Turns) P is memory read write out = out is

-- a drive that reached its end, after which no child is open
pub drives-end : (turns : ℕ) (breaks : List BreakAt) (before now : Moment) (end : End) → ComesToEnd turns breaks before now end → Agrees now.world now.calls → Drives turns breaks before now (Ok end)
drives-end turns breaks before now end c agrees =
    let over : AreOver now.calls = calls-over now.world now.calls agrees c.no_shell in
    record {
      called = now.calls;
      takes = takes-session turns breaks before now (Ok end) c;
      comes_to = c;
      waits = record { waits = []; calls_are = sym (append-nil now.calls); are_for_open = none-open now.calls over };
      over = over;
    }

-- a drive that stopped, after which the open children were waited for
pub drives-fault : (turns : ℕ) (breaks : List BreakAt) (before mid : Moment) (calls : List Call) (is_full : Bool) (fault : DriveFault) → is_full ≡ mid.is_full → HasDriveResult turns breaks before mid (Err fault)
    → WaitsForOpen mid.calls calls → AreOver calls → Drives turns breaks before (record mid { calls = calls; is_full = is_full }) (Err fault)
drives-fault turns breaks before mid calls is_full fault full c waits over =
    rw full (record { called = mid.calls; takes = takes-session turns breaks before mid (Err fault) c; comes_to = c; waits = waits; over = over })
