-- What is done with an object of a shared folder, which is on this machine and in the Shell's files. `last` is what both had at the last
-- comparison, `here` is what this machine has, and `there` what the Shell has.
use Rattle.std.specs.Prelude.{Bool, true, false, ◌&&◌, ◌==◌, if◌then◌else◌}
use Rattle.std.specs.Str.{bytes_eq}
use Rattle.ados_transfer.specs.declared.stamps.Time.{Time}
use Rattle.ados_transfer.specs.declared.stamps.Stamp.{Stamp}
use Rattle.ados_transfer.specs.declared.decision.State.{State}
use Rattle.ados_transfer.specs.declared.decision.State.TheVariants.{Absent, Directory, File, Large, Foreign}
use Rattle.ados_transfer.specs.declared.decision.Decision.{Decision}
use Rattle.ados_transfer.specs.declared.decision.Decision.TheVariants.{Keep, Bring, Write, Conflict}
use Rattle.ados_transfer.specs.declared.decision.Removal.{Removal}
use Rattle.ados_transfer.specs.declared.decision.Terms.{Terms}
use Rattle.ados_transfer.specs.declared.decision.Removal.TheVariants.{Forget, Delete, Hold, Wait, Leave, Conflict as Stays}

-- the two are the same time
abbrev pub is_same_time : Time → Time → Bool
is_same_time a b = a.seconds == b.seconds && a.nanoseconds == b.nanoseconds

-- two files have the same stamp: size, inode number, and times of change and of status change
abbrev pub is_same_stamp : Stamp → Stamp → Bool
is_same_stamp a b = a.size == b.size && (a.number == b.number && (is_same_time a.modified b.modified && is_same_time a.changed b.changed))

-- the objects on two sides are alike: nothing, directories, files with the same bytes, or with the same stamp if they are too large
-- for the Shell
abbrev pub is_same_state : State → State → Bool
is_same_state Absent Absent = true
is_same_state Directory Directory = true
is_same_state (File a) (File b) = bytes_eq a.now b.now
is_same_state (Large a) (Large b) = is_same_stamp a b
is_same_state Foreign Foreign = true
is_same_state _ _ = false

-- nothing is there
abbrev pub is_absent : State → Bool
is_absent Absent = true
is_absent _ = false

-- it is a file that is too large for the Shell
abbrev pub is_large : State → Bool
is_large (Large stamp) = true
is_large _ = false

-- What this machine has may be replaced by what the Shell has: it is nothing, or what it was at the last comparison. A file that is
-- too large for the Shell is never written over, and deleted only if `may_delete` allows it; what is neither a file nor a directory is not
-- touched.
abbrev pub may_write : State → State → State → Bool → Bool
may_write last Absent there may_delete = true
may_write last Directory there may_delete = is_same_state Directory last
may_write last (File bytes) there may_delete = is_same_state (File bytes) last
may_write last (Large stamp) there may_delete = is_same_state (Large stamp) last && (is_absent there && may_delete)
may_write last Foreign there may_delete = false

-- what is done: nothing if both sides are alike; otherwise the changed one is copied to the other side (`Bring` from this machine,
-- `Write` to it), and if both changed the object of this machine stays (`Conflict`)
abbrev pub decision : State → State → State → Bool → Decision
decision last here there may_delete =
    if is_same_state here there then Keep else
    (if is_same_state there last then Bring else
    (if may_write last here there may_delete then Write else Conflict))

-- How an object of this machine is removed, given what is done with it: one that would be written over is deleted, unless it is gone
-- already. If its bytes would then be only in memory (`is_last_copy`) it waits; and it stays if something that the Shell has could not be
-- written (`has_unwritten`), and may have its bytes.
abbrev pub removal_of : Decision → Bool → Terms → Removal
removal_of Keep gone terms = if gone then Forget else Leave
removal_of Bring gone terms = Leave
removal_of Write gone terms = if gone then Forget else (if terms.is_last_copy then Wait else (if terms.has_unwritten then Hold else Delete))
removal_of Conflict gone terms = Stays

-- the same, if the Shell's object is gone or of another kind
abbrev pub removal : State → State → State → Terms → Removal
removal last here there terms = removal_of (decision last here there terms.may_delete) (is_absent here) terms
