-- When a shared folder is brought up to date while the script goes on.
use Rattle.std.specs.Prelude.{Bool, false, ◌&&◌, ◌==◌, ◌-◌, ◌%◌, nat_le, nat_lt}
use Rattle.std.specs.Time.{instant_nanos}
use Rattle.std.specs.declared.time.Instant.{Instant}
use Rattle.amishell_execute.specs.declared.due.Due.{Due}
use Rattle.amishell_execute.specs.declared.due.Due.TheVariants.{Start, Read, Wait, Input, Turn}
use Rattle.amishell_execute.specs.declared.pace.Pace.{Pace}

-- files may have changed since the last update
abbrev pub may_differ : Pace → Bool
may_differ pace = nat_lt 0 pace.events

-- An update is due before an event whatever the time is: files may have changed, and the event may wait long. That is a line of
-- standard input, the end of a program, or one of its first 100 reads.
abbrev pub is_due_at_once : Pace → Due → Bool
is_due_at_once pace (Start shell) = false
is_due_at_once pace Read = may_differ pace && nat_lt pace.reads 100
is_due_at_once pace (Wait shell) = may_differ pace
is_due_at_once pace Input = may_differ pace
is_due_at_once pace Turn = false

-- It may be due, if the last update is long ago: also before each read, and before each 64th event that may change files.
abbrev pub may_be_due : Pace → Due → Bool
may_be_due pace (Start shell) = false
may_be_due pace Turn = may_differ pace && pace.events % 64 == 0
may_be_due pace due = may_differ pace

-- a moment is long after another: by 100 milliseconds
abbrev pub is_long_after : Instant → Instant → Bool
is_long_after later earlier = nat_le 100_000_000 (instant_nanos later - instant_nanos earlier)
