-- Deeds whose output is gathered: what they printed is what the writer got and what is gathered.
use Rattle.std.proofs.Common.{◌≡◌, ◌∙◌, inl, inr, ℕ, ◌+◌, List, [], ◌∷◌, ◌++◌, Bool, true, false, length, take, Option, Result, Ok, Err, refl, sym, ap, append_assoc, append-nil}
use Rattle.std.specs.Prelude.{IsErrAnd}
use Rattle.std.proofs.KnownBytes.{Appends-nil, Appends-trans}
use Rattle.std.proofs.Math.Seq.{take-append-add}
use Rattle.std.specs.Io.KnownBytes.{Appends}
use Rattle.ados_machine.specs.World.{WorldState}
use Rattle.ados_launch.specs.declared.driver.End.{End}
use Rattle.ados_launch.specs.declared.faults.DriveFault.{DriveFault}
use Rattle.ados_launch.specs.declared.faults.DriveFault.TheVariants.{Read, Write, Turns, Memory}
use Rattle.ados_launch.specs.Deeds.{Deed, DeedsLead, Does, RunsLines, Took, bytes_of_deeds, deeds_of_runs}
use Rattle.ados_launch.specs.Gathering.{Gathers, GathersNext, GetsPart, HasGatherResult, WritesGathered}
use Rattle.ados_launch.specs.Session.{Moment}
use Rattle.ados_launch.specs.Steps.{SessionState, is_write}
use Rattle.ados_launch.specs.Taken.{bytes_of}
use Rattle.ados_launch.proofs.Deeding.{bytes-alone, bytes-append, deeds-append, does-any}
use Rattle.amishell_execute.specs.declared.faults.Fault.{Fault}
use Rattle.amishell_execute.specs.Between.{EndsGathering, WriterView}
use Rattle.amishell_execute.specs.Playing.{may_be_cut}
use Rattle.amishell_execute.proofs.Driving.{cut-by}

pub record DoesGathering (w last : WorldState) (contents contents_now : Option (List ℕ)) (gathered : List ℕ) : Type 0 where
  pub deeds : List Deed
  pub lead : DeedsLead w deeds last
  pub front : List ℕ
  pub got : Appends contents contents_now front
  pub all : bytes_of_deeds deeds ≡ front ++ gathered

-- nothing was done
pub does-nothing : (w : WorldState) (contents : Option (List ℕ)) (gathered : List ℕ) → gathered ≡ [] → DoesGathering w w contents contents gathered
does-nothing w contents gathered none = record { deeds = []; lead = refl; front = []; got = Appends-nil contents; all = sym none }

-- more followed
pub does-more : (w mid last : WorldState) (contents known contents_now : Option (List ℕ)) (was now : List ℕ) (more : List Deed) → DoesGathering w mid contents known was → DeedsLead mid more last
    → Gathers was now known contents_now (bytes_of_deeds more) → DoesGathering w last contents contents_now now
does-more w mid last contents known contents_now was now more d lead g = record {
  deeds = d.deeds ++ more;
  lead = deeds-append w mid last d.deeds more d.lead lead;
  front = d.front ++ g.0;
  got = Appends-trans contents known contents_now d.front g.0 d.got g.1;
  all = bytes-append d.deeds more ∙ (ap (λ xs. xs ++ bytes_of_deeds more) d.all ∙ (append_assoc d.front was (bytes_of_deeds more)
      ∙ (ap (λ xs. d.front ++ xs) g.2 ∙ sym (append_assoc d.front g.0 now))));
}

-- lines ran alone
pub does-ran : (w mid last : WorldState) (contents known contents_now : Option (List ℕ)) (was now : List ℕ) → DoesGathering w mid contents known was → RunsLines mid last → Gathers was now known contents_now []
    → DoesGathering w last contents contents_now now
does-ran w mid last contents known contents_now was now d r g = does-more w mid last contents known contents_now was now (deeds_of_runs r.0) d r.1 (rw (bytes-alone r.0) g)

-- nothing more was done, but some of what is gathered was written
pub does-released : (w last : WorldState) (contents known contents_now : Option (List ℕ)) (was now : List ℕ) → DoesGathering w last contents known was → Gathers was now known contents_now []
    → DoesGathering w last contents contents_now now
does-released w last contents known contents_now was now d g = does-more w last last contents known contents_now was now [] d refl g

-- one thing was taken
pub does-taken : (w : WorldState) (contents : Option (List ℕ)) (was now : SessionState) (before after : Moment) → DoesGathering w before.world contents before.contents was.gathered → GathersNext was now before after
    → DoesGathering w after.world contents after.contents now.gathered
does-taken w contents was now before after d t =
    does-more w before.world after.world contents before.contents after.contents was.gathered now.gathered (Took t.takes.item ∷ []) d (t.takes.takes.accepted, t.takes.takes.world_is)
    (rw (append-nil (bytes_of t.takes.item)) (rw t.takes.takes.out_is at t.gathers))

-- all of it was written
pub does-written : (w last : WorldState) (contents known contents_now : Option (List ℕ)) (gathered : List ℕ) → DoesGathering w last contents known gathered → Appends known contents_now gathered
    → Does w last false contents contents_now
does-written w last contents known contents_now gathered d written =
    record { deeds = d.deeds; lead = d.lead; written = rw d.all (Appends-trans contents known contents_now d.front gathered d.got written) }

-- only a part of it was written
pub does-part : (w last : WorldState) (contents known contents_now : Option (List ℕ)) (gathered : List ℕ) → DoesGathering w last contents known gathered → GetsPart known contents_now gathered
    → Does w last true contents contents_now
does-part w last contents known contents_now gathered d part = record {
  deeds = d.deeds;
  lead = d.lead;
  written = (length d.front + part.0, rw (d.all, take-append-add) (Appends-trans contents known contents_now d.front (take part.0 gathered) d.got part.2));
}

-- a fault where no event was taken
pub does-ends : (w last : WorldState) (contents : Option (List ℕ)) (before after : WriterView) (gathered : List ℕ) (is_alone : Bool) (result : Result End Fault) (why : Fault) → IsErrAnd result (λ told. told ≡ why)
    → DoesGathering w last contents before.contents gathered → EndsGathering is_alone why gathered before after → Does w last (may_be_cut result) contents after.contents
does-ends w last contents before after gathered is_alone result why is d (inl own) =
    does-any (may_be_cut result) w last contents after.contents (does-written w last contents before.contents after.contents gathered d own.1)
does-ends w last contents before after gathered is_alone result why is d (inr fails) =
    rw (cut-by result Write (rw fails.fault_is at is)) (does-part w last contents before.contents after.contents gathered d fails.gets)

-- nothing comes
pub does-over : (w : WorldState) (contents : Option (List ℕ)) (was now : SessionState) (before after : Moment) → DoesGathering w before.world contents before.contents was.gathered
    → WritesGathered was now before after (Ok false) → Does w after.world false contents after.contents
does-over w contents was now before after d s =
    rw (ap (λ m. m.world) s.takes.stays) (does-written w before.world contents before.contents after.contents was.gathered d s.written)

-- what came next was not taken, or not all of what it printed was written
pub does-stops : (w : WorldState) (contents : Option (List ℕ)) (was now : SessionState) (before after : Moment) (fault : DriveFault) → DoesGathering w before.world contents before.contents was.gathered
    → HasGatherResult was now before after (Err fault) → Does w after.world (is_write fault) contents after.contents
does-stops w contents was now before after Read d s =
    rw s.takes.not_taken.world_is (does-written w before.world contents before.contents after.contents was.gathered d s.written)
does-stops w contents was now before after Memory d s =
    rw s.takes.not_taken.world_is (does-written w before.world contents before.contents after.contents was.gathered d s.written)
does-stops w contents was now before after Write d (inl s) = rw s.world_is (does-part w before.world contents before.contents after.contents was.gathered d s.gets)
does-stops w contents was now before after Write d (inr s) =
    let printed = bytes_of s.takes.item in
    does-part w after.world contents before.contents after.contents (was.gathered ++ printed)
    (does-more w before.world after.world contents before.contents before.contents was.gathered (was.gathered ++ printed) (Took s.takes.item ∷ []) d (s.takes.takes.accepted, s.takes.takes.world_is)
    ([], Appends-nil before.contents, ap (λ xs. was.gathered ++ xs) (append-nil printed)))
    (rw s.takes.takes.out_is at s.gets)
does-stops w contents was now before after Turns d s = absurd s
