-- Between two events of a run: what was gathered is gathered still, or written.
use Rattle.std.specs.Prelude.{◌≡◌, ◌⊎◌, ℕ, List, [], Bool, true, Option, None}
use Rattle.std.specs.Io.KnownBytes.{Appends}
use Rattle.ados_launch.specs.declared.faults.DriveFault.TheVariants.{Write}
use Rattle.ados_launch.specs.Gathering.{FailsToWrite, Gathers, GetsPart}
use Rattle.amishell_execute.specs.declared.faults.Fault.{Fault}
use Rattle.amishell_execute.specs.declared.faults.Fault.TheVariants.{Drive}
use Rattle.amishell_execute.specs.Playing.{drive_fault_of}

-- what is known of a writer: the bytes that it holds, and how many writes failed, and wrote nothing
pub record WriterView : Type 0 where
  pub contents : Option (List ℕ)
  pub faults : ℕ
  pub stalls : ℕ

abbrev pub writer_view : {K : Type 0} → (K → Option (List ℕ)) → (K → ℕ) → (K → ℕ) → K → WriterView
writer_view contents faults stalls writer = record { contents = contents writer; faults = faults writer; stalls = stalls writer }

-- What was gathered is what the writer got and what is gathered now, and no write failed.
pub record GathersOn (was now : List ℕ) (before after : WriterView) : Type 0 where
  pub gathers : Gathers was now before.contents after.contents []
  pub faults_are : after.faults ≡ before.faults
  pub stalls_are : after.stalls ≡ before.stalls

-- The fault is that a write failed: only a part of what was gathered was written.
pub record FailsGathering (why : Fault) (gathered : List ℕ) (before after : WriterView) : Type 0 where
  pub fault_is : why ≡ Drive Write
  pub gets : GetsPart before.contents after.contents gathered
  pub cause : FailsToWrite before.faults after.faults before.stalls after.stalls

-- Before a fault all that was gathered was written, and without a shared folder the fault is none of the drive; or a write failed.
abbrev pub EndsGathering : Bool → Fault → List ℕ → WriterView → WriterView → Type 0
EndsGathering is_alone why gathered before after =
    ((is_alone ≡ true → drive_fault_of why ≡ None) × Appends before.contents after.contents gathered) ⊎ FailsGathering why gathered before after
