-- What is taken from a reader for what comes next, if there is no memory for it.
use Rattle.std.specs.Prelude.{◌≡◌, ◌≢◌, ℕ, ◌+◌, ◌≤◌, List, drop, length, Option, Some}
use Rattle.ados_launch.specs.Lines.{input_limit, line_of}
use Rattle.ados_launch.specs.Schedule.{AtLine, Next}
use Rattle.ados_launch.specs.Session.{IsReadAhead}

-- For what comes next nothing was read past the line that is due, as far as is known. Of what was left to read a number of bytes were
-- taken: none if a line does not come next; otherwise at most that line and the newline after it, and no more than 65,537. Fewer than 4,096
-- bytes after them were read ahead.
pub record ReadsOnlyDueLine (next : Option Next) (left : List ℕ) (now : Option (List ℕ)) : Type 0 where
  pub count : ℕ
  pub none : next ≢ Some AtLine → count ≡ 0
  pub within : count ≤ length (line_of left) + 1
  pub few : count ≤ input_limit + 1
  pub left_is : IsReadAhead (drop count left) now

-- Some of these bytes were taken: nothing past the line with which they begin and the newline after it, and no more than show that a line
-- is overlong.
pub record TakesPart (bytes : List ℕ) (now : Option (List ℕ)) : Type 0 where
  pub count : ℕ
  pub within : count ≤ length (line_of bytes) + 1
  pub few : count ≤ input_limit + 1
  pub now_is : now ≡ Some (drop count bytes)

-- If this comes next, some of these bytes may have been taken for it, provided that it is a line.
pub record TakesPartAt (next : Next) (bytes : List ℕ) (now : Option (List ℕ)) : Type 0 where
  pub part : TakesPart bytes now
  pub none : next ≢ AtLine → part.count ≡ 0
