-- The first invalid line.
use Rattle.std.specs.Prelude.{◌≡◌, ◌<◌, ◌+◌, ℕ, Bool, true, false, List, length, take}
use Rattle.ados_text.specs.Text.{Text}
use Rattle.ados_session.specs.declared.faults.FileFault.{FileFault}
use Rattle.ados_session.specs.declared.faults.FileFault.TheVariants.{BadLine, NoMemory}

-- the lines before a place are as they should be, which `are_good` tests, and with the one at that place they are not
abbrev pub IsFirstBad : (List Text → Bool) → List Text → ℕ → Type 0
IsFirstBad are_good lines place = (place < length lines) × (are_good (take place lines) ≡ true) × (are_good (take (place + 1) lines) ≡ false)

-- A fault names the first invalid line of a file, by its number, where these lines begin after `before` others; out of memory names none.
-- `are_good` tests lines.
abbrev pub IsFault : (List Text → Bool) → ℕ → List Text → FileFault → Type 0
IsFault are_good before lines (BadLine number) = (place : ℕ) × (number ≡ place + before + 1) × IsFirstBad are_good lines place
IsFault are_good before lines NoMemory = Unit {0}
