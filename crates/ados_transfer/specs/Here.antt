-- What was seen of an object of the shared folder on this machine. Its stamp is its size, inode number and times.
use Rattle.std.specs.Prelude.{Bool, false, Option, Some, None}
use Rattle.ados_transfer.specs.declared.stamps.Stamp.{Stamp}
use Rattle.ados_transfer.specs.declared.here.Here.{Here}
use Rattle.ados_transfer.specs.declared.here.Here.TheVariants.{Absent, Directory, File, Large, Foreign, Unread}
use Rattle.ados_transfer.specs.Decisions.{is_same_stamp}

-- the stamp that it had, if it was a file or a folder
abbrev pub stamp_of : Here → Option Stamp
stamp_of Absent = None
stamp_of (Directory stamp) = Some stamp
stamp_of (File bytes stamp mode) = Some stamp
stamp_of (Large stamp) = Some stamp
stamp_of Foreign = None
stamp_of Unread = None

-- it was there with this stamp
abbrev pub is_stamped : Option Stamp → Stamp → Bool
is_stamped None found = false
is_stamped (Some stamp) found = is_same_stamp stamp found

abbrev pub has_stamp : Here → Stamp → Bool
has_stamp here found = is_stamped (stamp_of here) found
