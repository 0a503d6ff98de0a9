-- Stamps of files of this machine.
use Rattle.std.specs.Prelude.{Bool, ◌&&◌, ◌==◌, ℕ, ◌+◌, ◌*◌, if◌then◌else◌}
use Rattle.ados_transfer.specs.declared.stamps.Stamp.{Stamp}
use Rattle.ados_transfer.specs.declared.stamps.Time.{Time}
use Rattle.ados_transfer.specs.Decisions.{is_same_time}

-- The stamps are those of one file that may have taken another name between them: that changes the time of status change alone.
abbrev pub is_same_file : Stamp → Stamp → Bool
is_same_file a b = is_same_time a.modified b.modified && (a.size == b.size && a.number == b.number)

-- the nanoseconds of a time since 1970
abbrev pub time_nanos : Time → ℕ
time_nanos time = time.seconds * 1_000_000_000 + time.nanoseconds

-- The nanoseconds since 1970 at which the last change with this time may have been: a time without a fraction of a second may be that of
-- a clock which stands still for two seconds.
abbrev pub last_nanos : Time → ℕ
last_nanos time = time_nanos time + (if time.nanoseconds == 0 then 2_000_000_000 else 0)
