-- How the faults of a reader and a writer are counted.
use Rattle.std.specs.Prelude.{◌≡◌, ℕ, ◌+◌, ◌-◌, ◌^◌, min, ◌&&◌, nat_lt, ◌==◌, if◌then◌else◌, MatchResult, Result}
use Rattle.ados_launch.specs.declared.faults.DriveFault.{DriveFault}
use Rattle.ados_launch.specs.declared.faults.DriveFault.TheVariants.{Read, Memory}
use Rattle.ados_launch.specs.declared.faults.IntakeFault.{IntakeFault}
use Rattle.ados_launch.specs.declared.faults.IntakeFault.TheVariants.{Read as Unread, NoMemory as OutOfMemory}

-- a count of faults after a call: an Err adds one, any other answer keeps the count
abbrev pub CountsFault : {T E : Type 0} → ℕ → ℕ → Result T E → Type 0
CountsFault before after result = MatchResult result (λ _. after ≡ before) (λ _. after ≡ before + 1)

-- one more than this count, which stops at 2^64 - 1
abbrev pub one_more : ℕ → ℕ
one_more count = min (count + 1) (2 ^ 64 - 1)

-- a count of stalls after a write of a buffer with this many bytes: writing none of them, if there is one, adds one, any other answer keeps
-- the count
abbrev pub CountsStall : {E : Type 0} → ℕ → ℕ → Result ℕ E → ℕ → Type 0
CountsStall before after result room =
    MatchResult result (λ n. after ≡ (if (n == 0) && nat_lt 0 room then one_more before else before)) (λ _. after ≡ before)

-- why a run stops, if this is why its next event was not taken
abbrev pub drive_fault : IntakeFault → DriveFault
drive_fault Unread = Read
drive_fault OutOfMemory = Memory
