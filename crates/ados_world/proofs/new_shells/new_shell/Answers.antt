use Rattle.std.proofs.Common.{sym, subst}
use Rattle.ados_machine.specs.Shells.{ShellState}
use Rattle.ados_world.specs.Shells.{IsShellNumber}
use Rattle.ados_world.proofs.new_shells.new_shell.Goals as goal

pub returns-in_ok-shell-in-Some-next_number-clause-number : goal.returns-in_ok-shell-in-Some-next_number-clause-number
returns-in_ok-shell-in-Some-next_number-clause-number c =
    let P : ShellState → Type 0 = λ s. IsShellNumber s.parts.number in
    subst P (sym c.in_ok-shell-in-Some-next_number.ensures) c.in-Some-next_number.ensures.within
