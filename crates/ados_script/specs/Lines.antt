-- The lines of a script by their numbers, which count from 1.
use Rattle.std.specs.Prelude.{ℕ, zero, suc, ◌+◌, ◌-◌, List, length, take, drop, slice_get, Bool, false}
use Rattle.std.specs.Prelude.{Option, Some, None}
use Rattle.std.specs.List.{range_with_len}

-- the line with this number, if there is one; the first has number 1
abbrev pub line_of : {Line : Type 0} → List Line → ℕ → Option Line
line_of lines zero = None
line_of lines (suc place) = slice_get lines place

-- there is a line, and it passes a test
abbrev pub is_some_and : {Line : Type 0} → (Line → Bool) → Option Line → Bool
is_some_and test None = false
is_some_and test (Some line) = test line

-- the numbers of the lines below line i, down to the last; below 0 are all lines
abbrev pub numbers_below : {Line : Type 0} → List Line → ℕ → List ℕ
numbers_below lines i = range_with_len (i + 1) (length lines - i)

-- the lines strictly between lines i and j
abbrev pub lines_between : {Line : Type 0} → List Line → ℕ → ℕ → List Line
lines_between lines i j = take (j - (i + 1)) (drop i lines)
