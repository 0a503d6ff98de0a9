-- The shell that a turn makes.
use Rattle.std.specs.Prelude.{◌-◌, ℕ, List, Option, Some, None, slice_set}
use Rattle.ados_machine.specs.Shells.{ShellStart, begun_shell, ShellState}

-- the shell that an event makes, if it makes one and there is a number for it
abbrev pub new_shell : Option ShellStart → Option ℕ → Option ShellState
new_shell (Some begun) (Some number) = Some (begun_shell number begun)
new_shell (Some begun) None = None
new_shell None number = None

-- the shells with a new one, if there is one, at its number
abbrev pub joined_shells : Option ShellState → List (Option ShellState) → List (Option ShellState)
joined_shells None shells = shells
joined_shells (Some shell) shells = slice_set shells (shell.parts.number - 1) (Some shell)
