-- The phase of a shell, by what keeps it from taking its next line.
use Rattle.std.specs.Prelude.{Option, Some, None}
use Rattle.ados_machine.specs.Phases.{Phase, Ready, GoingOn, Waiting}
use Rattle.ados_shell.specs.declared.suspensions.Suspension.{Suspension}
use Rattle.ados_shell.specs.declared.suspensions.Suspension.TheVariants as suspension

-- the phase of a shell, by what keeps it from its next line; if nothing does it is Ready
abbrev pub phase_of : Option Suspension → Phase
phase_of None = Ready
phase_of (Some (suspension.GoingOn parted)) = GoingOn parted
phase_of (Some (suspension.Waiting wait)) = Waiting wait
