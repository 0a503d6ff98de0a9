-- A run without a shared folder is a drive; and what a run does, by its result.
use Rattle.std.proofs.Common.{◌≡◌, ◌∙◌, inl, inr, ℕ, ◌+◌, ◌<◌, ◌≤◌, List, [], ◌++◌, Bool, true, length, Option, Some, None, is_none, Result, Ok, Err, arith, refl, sym, ap, true≢false, append_assoc, append-nil}
use Rattle.std.specs.Prelude.{IsErrAnd, IfSome}
use Rattle.std.proofs.KnownBytes.{Appends-trans}
use Rattle.ados_machine.specs.World.{WorldState}
use Rattle.ados_launcher.specs.declared.calls.Call.{Call}
use Rattle.ados_launch.specs.declared.driver.End.{End}
use Rattle.ados_launch.specs.declared.faults.DriveFault.{DriveFault}
use Rattle.ados_launch.specs.declared.faults.DriveFault.TheVariants.{Write}
use Rattle.ados_launch.specs.Agreement.{Agrees, AreOver, WaitsForOpen}
use Rattle.ados_launch.specs.Deeds.{DoesByRule, bytes_of_deeds}
use Rattle.ados_launch.specs.Drives.{Drives, HasDriveResult, ReadsWell, WritesWell}
use Rattle.ados_launch.specs.Gathering.{Gathers, GathersNext}
use Rattle.ados_launch.specs.Lines.{bytes_ahead}
use Rattle.ados_launch.specs.Schedule.{first_schedule_state}
use Rattle.ados_launch.specs.Session.{Moment}
use Rattle.ados_launch.specs.Steps.{SessionState, is_write}
use Rattle.ados_launch.proofs.Deeding.{written-some}
use Rattle.ados_launch.proofs.Outcomes.{drives-end, drives-fault}
use Rattle.ados_launch.proofs.Gathering.{DrivenGathering, gathered-counted, gathering-more, gathering-none, stops-behind, with_writer}
use Rattle.amishell_execute.specs.declared.faults.Fault.{Fault}
use Rattle.amishell_execute.specs.declared.faults.Fault.TheVariants.{Drive}
use Rattle.amishell_execute.specs.Between.{EndsGathering, WriterView}
use Rattle.amishell_execute.specs.Playing.{IfDriven, PlaysAlone, drive_fault_of, may_be_cut}

-- what is gathered, once some of it was written
pub rest-gathered : (front was got now : List ℕ) → was ++ [] ≡ got ++ now → front ++ was ≡ (front ++ got) ++ now
rest-gathered front was got now all = ap (λ xs. front ++ xs) (sym (append-nil was) ∙ all) ∙ sym (append_assoc front got now)

-- this many were taken, and nothing else was done; what they printed was written, or is gathered
pub record DrivenAlone (before now : Moment) (n : ℕ) (session : SessionState) : Type 0 where
  pub driven : DrivenGathering before now [] n session.schedule (bytes_ahead session.held now.left) session.gathered
  pub count : session.schedule.taken ≡ n
  pub in_round : session.schedule.round.place ≤ 61
  pub few : length session.held < 4096
  pub reads : ReadsWell before now
  pub writes : WritesWell before now

pub alone-none : (before : Moment) (session : SessionState) → before.left ≡ None → session.schedule ≡ first_schedule_state [] → session.held ≡ [] → session.gathered ≡ [] → Agrees before.world before.calls
    → DrivenAlone before before 0 session
alone-none before session unknown begins held none agrees = record {
  driven = gathering-none before [] session.schedule (bytes_ahead session.held before.left) session.gathered (rw held (rw unknown refl)) begins agrees none;
  count = rw begins refl;
  in_round = rw begins (omega arith);
  few = rw held (omega arith);
  reads = refl;
  writes = (refl, refl);
}

-- at the same moment
pub alone-same : (before mid same : Moment) (n : ℕ) (was session : SessionState) → same ≡ mid → session ≡ was → DrivenAlone before mid n was → DrivenAlone before same n session
alone-same before mid same n was session at is a = rw (at, is) a

-- some of what is gathered was written
pub alone-released : (before mid : Moment) (contents : Option (List ℕ)) (faults stalls n : ℕ) (was : SessionState) (gathered : List ℕ) → Gathers was.gathered gathered mid.contents contents [] → faults ≡ mid.write_faults
    → stalls ≡ mid.stalls → DrivenAlone before mid n was → DrivenAlone before (with_writer contents faults stalls mid) n (record was { gathered = gathered })
alone-released before mid contents faults stalls n was gathered g well going a = record {
  driven = record {
    known = a.driven.known;
    driven = record {
      taken = a.driven.driven.taken;
      listed = a.driven.driven.listed;
      count_is = a.driven.driven.count_is;
      session = a.driven.driven.session;
      schedule_is = a.driven.driven.schedule_is;
      left_is = a.driven.driven.left_is;
      written = a.driven.driven.written;
      calls_are = a.driven.driven.calls_are;
    };
    front = a.driven.front ++ g.0;
    got = Appends-trans before.contents mid.contents contents a.driven.front g.0 a.driven.got g.1;
    all = a.driven.all ∙ rest-gathered a.driven.front was.gathered g.0 gathered g.2;
  };
  count = a.count;
  in_round = a.in_round;
  few = a.few;
  reads = a.reads;
  writes = (well ∙ a.writes.0, going ∙ a.writes.1);
}

-- one more was taken
pub alone-step : (before mid now : Moment) (n : ℕ) (was next : SessionState) → DrivenAlone before mid n was → GathersNext was next mid now → (mid.is_full ≡ true → now.is_full ≡ true)
    → Agrees now.world now.calls → next.schedule.round.place ≤ 61 → length next.held < 4096 → DrivenAlone before now (n + 1) next
alone-step before mid now n was next a t stays agrees in_round few = record {
  driven = gathering-more before mid now [] n was next a.driven t stays agrees;
  count = gathered-counted was next mid now t ∙ ap (λ m. m + 1) a.count;
  in_round = in_round;
  few = few;
  reads = t.reads_well ∙ a.reads;
  writes = (t.writes_well.0 ∙ a.writes.0, t.writes_well.1 ∙ a.writes.1);
}

-- a fault that is the drive's
pub fault-driven : (result : Result End Fault) (fault : DriveFault) (P : Result End DriveFault → Type 0) → IsErrAnd result (λ why. why ≡ Drive fault) → P (Err fault) → IfDriven result P
fault-driven (Ok end) fault P is holds = absurd is
fault-driven (Err why) fault P is holds = rw is holds

-- a fault that is not
pub undriven : (result : Result End Fault) (fault : Fault) (P : Result End DriveFault → Type 0) → IsErrAnd result (λ why. why ≡ fault) → drive_fault_of fault ≡ None → IfDriven result P
undriven (Ok end) fault P is none = absurd is
undriven (Err why) fault P is none = rw (is, none) tt

-- a fault where no event was taken
pub alone-ends : (turns n : ℕ) (before mid : Moment) (after : WriterView) (was : SessionState) (result : Result End Fault) (why : Fault) → IsErrAnd result (λ told. told ≡ why) → n ≤ turns → DrivenAlone before mid n was
    → EndsGathering true why was.gathered (record { contents = mid.contents; faults = mid.write_faults; stalls = mid.stalls }) after
    → IfDriven result (HasDriveResult turns [] before (with_writer after.contents after.faults after.stalls mid))
alone-ends turns n before mid after was result why is within a (inl own) = undriven result why (HasDriveResult turns [] before (with_writer after.contents after.faults after.stalls mid)) is (own.0 refl)
alone-ends turns n before mid after was result why is within a (inr fails) =
    fault-driven result Write (HasDriveResult turns [] before (with_writer after.contents after.faults after.stalls mid)) (rw fails.fault_is at is)
    (stops-behind turns n [] before mid (with_writer after.contents after.faults after.stalls mid) was.schedule (bytes_ahead was.held mid.left) was.gathered a.driven within (λ e. e) refl refl
    fails.gets fails.cause a.reads a.writes)

-- what is written, by a fault that is the drive's
pub cut-by : (result : Result End Fault) (fault : DriveFault) → IsErrAnd result (λ why. why ≡ Drive fault) → may_be_cut result ≡ is_write fault
cut-by (Ok end) fault is = absurd is
cut-by (Err why) fault is = rw is refl

-- it came to its end, or stopped, and the open children were waited for
pub waited-end : (turns : ℕ) (before now : Moment) (end : End) → IfDriven (Ok end) (HasDriveResult turns [] before now) → Agrees now.world now.calls → IfDriven (Ok end) (Drives turns [] before now)
waited-end turns before now end c agrees = drives-end turns [] before now end c agrees

pub waited-fault : (turns : ℕ) (before mid : Moment) (calls : List Call) (is_full : Bool) (why : Fault) → is_full ≡ mid.is_full → IfDriven (Err why) (HasDriveResult turns [] before mid)
    → WaitsForOpen mid.calls calls → AreOver calls → IfDriven (Err why) (Drives turns [] before (record mid { calls = calls; is_full = is_full }))
waited-fault turns before mid calls is_full why same c waits over = by-fault (drive_fault_of why) c
  where
    by-fault : (fault : Option DriveFault) → IfSome fault (λ f. HasDriveResult turns [] before mid (Err f)) → IfSome fault (λ f. Drives turns [] before (record mid { calls = calls; is_full = is_full }) (Err f))
    by-fault None none = tt
    by-fault (Some f) some = drives-fault turns [] before mid calls is_full f same some waits over

-- the same for a caller that sees the world and the writer
pub plays-alone : (turns : ℕ) (before now : Moment) (result : Result End Fault) → IfDriven result (Drives turns [] before now) → before.calls ≡ []
    → IfDriven result (PlaysAlone before.world now.world before.contents now.contents)
plays-alone turns before now (Ok end) d none =
    record { turns = turns; before = before; now = now; drives = d; no_calls = none; world_is = refl; last_is = refl; contents_are = refl; contents_now_are = refl }
plays-alone turns before now (Err why) d none = by-fault (drive_fault_of why) d
  where
    by-fault : (fault : Option DriveFault) → IfSome fault (λ f. Drives turns [] before now (Err f)) → IfSome fault (λ f. PlaysAlone before.world now.world before.contents now.contents (Err f))
    by-fault None d = tt
    by-fault (Some f) d =
        record { turns = turns; before = before; now = now; drives = d; no_calls = none; world_is = refl; last_is = refl; contents_are = refl; contents_now_are = refl }

-- some may be missing
pub rule_cut : (is_cut : Bool) (w last : WorldState) (contents contents_now : Option (List ℕ)) → DoesByRule w last is_cut contents contents_now → DoesByRule w last true contents contents_now
rule_cut is_cut w last contents contents_now d = record {
  deeds = d.deeds;
  lead = d.lead;
  written = written-some is_cut contents contents_now (bytes_of_deeds d.deeds) d.written;
  limits = d.limits;
  reports = d.reports;
  frames = d.frames;
}

-- there is nothing
pub none-by : {X : Type 0} (o : Option X) → is_none o ≡ true → o ≡ None
none-by None none = refl
none-by (Some x) none = absurd (true≢false (sym none))
