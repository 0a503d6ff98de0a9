-- The lines of an input.
use Rattle.std.specs.Prelude.{◌≡◌, ◌⊎◌, ℕ, Bool, Option, Some, is_some, List, [], ◌∷◌, ◌+◌, drop, take, length, position, nat_le, if◌then◌else◌}
use Rattle.std.specs.Io.KnownBytes.{prepend_known}
use Rattle.ados_text.specs.Lines.{is_newline}
use Rattle.ados_line.specs.Cut.{line_limit}
use Rattle.ados_launch.specs.declared.lines.LineKind.{LineKind}
use Rattle.ados_launch.specs.declared.lines.LineKind.TheVariants.{End, Short, Long, Overlong}

-- the bytes up to the first newline, without it, or all of them
abbrev pub line_of : List ℕ → List ℕ
line_of [] = []
line_of (byte ∷ bytes) = if is_newline byte then [] else byte ∷ line_of bytes

-- the bytes after the first newline; none if there is no newline
abbrev pub rest_of : List ℕ → List ℕ
rest_of [] = []
rest_of (byte ∷ bytes) = if is_newline byte then bytes else rest_of bytes

-- the greatest number of bytes of a line of the input that gets one answer; a longer one is overlong
abbrev pub input_limit : ℕ
input_limit = 65536

-- the kind of a line with this many bytes
abbrev pub kind_of_length : ℕ → LineKind
kind_of_length n = if nat_le n line_limit then Short else if nat_le n input_limit then Long else Overlong

-- the kind of the line with which these bytes begin, or the end of the input
abbrev pub kind_of : List ℕ → LineKind
kind_of [] = End
kind_of (byte ∷ bytes) = kind_of_length (length (line_of (byte ∷ bytes)))

-- these bytes begin with a whole line of at most 512 bytes, with the newline after it
abbrev pub has_short_line : List ℕ → Bool
has_short_line bytes = is_some (position is_newline (take (line_limit + 1) bytes))

-- what is left of these bytes after those that show that their first line is overlong
abbrev pub rest_after_overlong : List ℕ → List ℕ
rest_after_overlong bytes = drop (input_limit + 1) bytes

-- what is still to be read, if that is known: the bytes read ahead, and then what is left in the reader
abbrev pub bytes_ahead : List ℕ → Option (List ℕ) → Option (List ℕ)
bytes_ahead held left = prepend_known held left

-- `P` holds of the bytes, if they are known
abbrev pub IfKnown : Option (List ℕ) → (List ℕ → Type 0) → Type 0
IfKnown known P = (bytes : List ℕ) → known ≡ Some bytes → P bytes

-- these bytes begin with an overlong line, and as many were taken as show that, which leaves `now`
abbrev pub BeginsOverlong : List ℕ → Option (List ℕ) → Type 0
BeginsOverlong bytes now = (kind_of bytes ≡ Overlong) × (now ≡ Some (rest_after_overlong bytes))

-- By the counts of failed reads before and now, a read failed; or none did, and what was left to read, if that is known, begins with an
-- overlong line.
abbrev pub IsUnreadable : ℕ → ℕ → Option (List ℕ) → Option (List ℕ) → Type 0
IsUnreadable before now left rest = (now ≡ before + 1) ⊎ ((now ≡ before) × IfKnown left (λ bytes. BeginsOverlong bytes rest))

-- the next line was taken from these bytes: its kind, the line itself if it is short, and what is left
pub record TakesLine (bytes : List ℕ) (kind : LineKind) (kept : List ℕ) (now : Option (List ℕ)) : Type 0 where
  pub kind_is : kind ≡ kind_of bytes
  pub kept_is : kind ≡ Short → kept ≡ line_of bytes
  pub now_is : (kind ≡ Overlong → ⊥) → now ≡ Some (rest_of bytes)
  pub cut_is : kind ≡ Overlong → now ≡ Some (rest_after_overlong bytes)
