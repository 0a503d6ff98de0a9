use Rattle.std.proofs.Common.{◌≡◌, ◌++◌, drop}
use Rattle.ados_machine.specs.Course.{current_directories}
use Rattle.ados_machine.specs.World.{seen_shells}
use Rattle.ados_shell.proofs.seen.directories.Given as goal

abbrev pub invariant-loop-shell : goal.invariant-loop-shell
invariant-loop-shell l = l.places.items ++ current_directories (seen_shells (drop l.shell-index l.shells)) ≡ current_directories (seen_shells l.shells)
