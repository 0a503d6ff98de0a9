-- The time that a run may take.
use Rattle.std.specs.Prelude.{ℕ, ◌-◌, ◌/◌}
use Rattle.std.specs.Time.{instant_nanos}
use Rattle.std.specs.declared.time.Instant.{Instant}
use Rattle.amishell_execute.specs.declared.deadline.Deadline.{Deadline}

-- how many seconds it may take
abbrev pub seconds_of : Deadline → ℕ
seconds_of deadline = deadline.seconds

-- how many whole seconds are from one moment to another
abbrev pub seconds_between : Instant → Instant → ℕ
seconds_between earlier later = (instant_nanos later - instant_nanos earlier) / 1_000_000_000
