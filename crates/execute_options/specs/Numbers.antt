-- The options whose values are numbers.
use Rattle.std.specs.Prelude.{◌≡◌, ℕ, ℤ, pos, ◌&&◌, nat_le, Option, Some, None, codes, if◌then◌else◌, is_some, option_and_then}
use Rattle.clap.specs.Matches.{first_value}
use Rattle.clap.specs.declared.parser.matches.Found.{Found}
use Rattle.ados_text.specs.Text.{Bytes}
use Rattle.ados_text.specs.Number.{number_of}
use Rattle.execute_options.specs.declared.numbers.Numbers.{Numbers}

-- a number from 1 to the most that it may be
abbrev pub in_range : ℕ → ℤ → Option ℕ
in_range most (pos n) = if nat_le 1 n && nat_le n most then Some n else None
in_range most _ = None

-- the number that a word writes, if it is in its range
abbrev pub number_written : ℕ → Bytes → Option ℕ
number_written most word = option_and_then (in_range most) (number_of word)

-- the number of an option, if it is given
abbrev pub number_given : Found → Bytes → ℕ → Option ℕ
number_given found name most = option_and_then (number_written most) (first_value found name)

-- the numbers that are given: turns and seconds up to 1,000,000,000, and a code up to 255
abbrev pub numbers_of : Found → Numbers
numbers_of found = record {
  turns = number_given found (codes "turns") 1_000_000_000;
  seconds = number_given found (codes "seconds") 1_000_000_000;
  least = number_given found (codes "ok-below") 255;
}

-- each of these options that is given has a number
abbrev pub AreInRange : Found → Numbers → Type 0
AreInRange found numbers =
    (is_some numbers.turns ≡ is_some (first_value found (codes "turns")))
    × (is_some numbers.seconds ≡ is_some (first_value found (codes "seconds")))
    × (is_some numbers.least ≡ is_some (first_value found (codes "ok-below")))
