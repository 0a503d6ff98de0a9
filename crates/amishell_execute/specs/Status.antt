-- The exit status.
use Rattle.std.specs.Prelude.{ℕ, ℤ, pos, Result, Ok, Err, if◌then◌else◌, nat_lt}
use Rattle.ados_launch.specs.declared.driver.End.{End}
use Rattle.ados_launch.specs.declared.faults.DriveFault.TheVariants.{Turns as TurnsOfDrive}
use Rattle.amishell_execute.specs.declared.faults.Fault.{Fault}
use Rattle.amishell_execute.specs.declared.faults.Fault.TheVariants.{BadLine as BadWords, HostWords, ManyHosts, OwnName, ScriptUnread, NotInPath, Turns, Seconds, Drive}
use Rattle.amishell_execute.specs.declared.status.Status.{Status}
use Rattle.amishell_execute.specs.declared.status.Status.TheVariants.{Done, Ended, Wrong, BadLine, Limit, Failed, Unreadable}

-- the number of each
abbrev pub number_of : Status → ℕ
number_of Done = 0
number_of (Ended n) = n
number_of Wrong = 1
number_of BadLine = 2
number_of Limit = 124
number_of Failed = 125
number_of Unreadable = 126

-- the exit status for a script's code: one below `least` is success, another one from 0 to 255 is the status itself
abbrev pub status_of : ℕ → ℤ → Status
status_of least (pos n) = if nat_lt n least then Done else if nat_lt n 256 then Ended n else Failed
status_of _ _ = Failed

-- the exit status for a fault: 2 if the command line is invalid, 126 if the script cannot be read or a program is not in PATH, 124 at a
-- limit of events or of seconds, and 125 for any other
abbrev pub status_of_fault : Fault → ℕ
status_of_fault (BadWords reason) = 2
status_of_fault (HostWords reason) = 2
status_of_fault ManyHosts = 2
status_of_fault OwnName = 2
status_of_fault (ScriptUnread unread) = 126
status_of_fault (NotInPath words) = 126
status_of_fault (Drive TurnsOfDrive) = 124
status_of_fault (Turns turns) = 124
status_of_fault (Seconds seconds) = 124
status_of_fault fault = 125

-- the exit status of a run: the one for its script's code, or for its fault
abbrev pub status_of_run : ℕ → Result End Fault → ℕ
status_of_run least (Ok end) = number_of (status_of least end.code.0)
status_of_run least (Err fault) = status_of_fault fault

-- what the program exits with, by the status or the fault that is left
abbrev pub exit_status : Result Status Fault → ℕ
exit_status (Ok status) = number_of status
exit_status (Err fault) = status_of_fault fault
