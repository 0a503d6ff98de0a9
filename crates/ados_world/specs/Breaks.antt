-- Breaks of other shells.
use Rattle.std.specs.Prelude.{ℕ, List, Option, Some, None, ◌==◌, if◌then◌else◌}
use Rattle.ados_find.specs.declared.outcomes.Breaking.{Breaking}
use Rattle.ados_machine.specs.Breaks.{broken_number}
use Rattle.ados_machine.specs.Shells.{ShellState}

-- the shells after a command of the shell of this number, which broke another shell or none; what it does to its own shell is part of its
-- turn
abbrev pub shells_with_broken : ℕ → Option Breaking → List (Option ShellState) → List (Option ShellState)
shells_with_broken number None shells = shells
shells_with_broken number (Some breaking) shells = if breaking.shell == number then shells else broken_number breaking.breaks breaking.shell shells
