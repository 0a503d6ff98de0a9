-- The ends of background shells.
use Rattle.std.specs.Prelude.{◌-◌, ℕ, List, Option, Some, None, slice_set, if◌then◌else◌}
use Rattle.ados_find.specs.declared.codes.Codes.{Codes}
use Rattle.ados_machine.specs.Shells.{ShellState}
use Rattle.ados_machine.specs.Step.{is_done}

-- the codes that the shell of this number leaves, if it is a background shell that no longer runs a frame
abbrev pub final_codes : ℕ → Option ShellState → Option Codes
final_codes number None = None
final_codes number (Some shell) = if is_done number shell.frames then Some shell.parts.codes else None

-- the shells without the one of this number, if it leaves codes, as it has ended
abbrev pub remaining_shells : Option Codes → ℕ → List (Option ShellState) → List (Option ShellState)
remaining_shells None number shells = shells
remaining_shells (Some codes) number shells = slice_set shells (number - 1) None

-- the last codes of all numbers with those that the shell of this number leaves, if it leaves any
abbrev pub recorded_codes : Option Codes → ℕ → List Codes → List Codes
recorded_codes None number ended = ended
recorded_codes (Some codes) number ended = slice_set ended (number - 1) codes
